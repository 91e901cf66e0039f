-- What the proofs of several functions use, and what those of the crates above cite: the slot of a name.
pub mod Typed
mod Opening
