-- What the proofs of several functions use.
mod Laid
mod Anew
pub mod OneTable
