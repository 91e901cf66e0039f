-- Statements
pub mod Demand1
pub mod Demand2
pub mod Demand3
pub mod Refusals
pub mod BlanksBetween
pub mod Wish10
pub mod LongestKnown
-- What an answer leaves, and a table written and read
pub mod Leaves
pub mod TablesBack
pub mod PlanPrescribed
-- Runs
pub mod WholeRuns
pub mod PlainRuns
pub mod WrittenRuns
-- Refusals by their numbers
pub mod VisitNumbers
pub mod RefusalCases
pub mod Cuts
pub mod RefusalsGiven
-- Blanks between tokens
pub mod BareBytes
pub mod BareStrings
pub mod Respaced
pub mod WholeTexts
pub mod BareAgain
pub mod BlankPut
pub mod RespacedRuns
mod BlankExamples
