-- What the proofs of several functions use.
pub mod Tags
pub mod Fill
