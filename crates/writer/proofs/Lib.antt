-- What the proofs of several functions use.
mod QuotedDates
mod HeadTexts
mod Printed
mod PrintedDetail
pub mod Written
mod WordsWritten
mod MeasuredLengths
