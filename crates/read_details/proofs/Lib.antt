-- What the proofs of several functions use.
mod Detailed
pub mod Sequences
