-- What the proofs of several functions use.
mod Standing
pub mod Answers
mod Runs
