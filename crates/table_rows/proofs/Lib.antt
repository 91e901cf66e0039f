-- What the proofs of several functions use.
pub mod Standing
pub mod Storing
