-- Statements
pub mod Refusal2
pub mod Refusal3
pub mod Spells
pub mod Runs
pub mod Decodes
pub mod Moved
-- What tables and bytes say
pub mod Tables
pub mod Bytes
pub mod Digits
pub mod Points
-- Parts of a text
pub mod Blanks
pub mod Strings
pub mod Left
pub mod Decoding
pub mod Encoded
pub mod Shorter
-- The walk
pub mod Through
pub mod Fits
pub mod Halts
pub mod Objects
pub mod Counted
pub mod Levels
pub mod Faults
pub mod Deeps
pub mod Exactly
pub mod Shortest
pub mod ExactlyInRuns
-- Moving about
pub mod Skipped
pub mod Trees
mod Examples
