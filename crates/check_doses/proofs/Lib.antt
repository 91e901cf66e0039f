-- What the proofs of several functions use, here and in the crates above.
pub mod Decided
pub mod DaySums
pub mod Lies
pub mod Found
