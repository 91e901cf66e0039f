-- What the proofs of several functions use, and what reading makes of it.
pub mod Prefixes
mod Settled
pub mod Onward
