-- What the proofs of several functions use.
mod Carried
mod Back
mod Laid
pub mod Made
pub mod Lays
