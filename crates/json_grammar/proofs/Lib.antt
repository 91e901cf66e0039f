-- What the proofs of other crates use.
pub mod Rows
pub mod Places
pub mod Passes
pub mod Moves
pub mod Truth
pub mod Stores
