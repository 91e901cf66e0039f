-- What the proofs of several functions use.
pub mod Skips
mod Counts
