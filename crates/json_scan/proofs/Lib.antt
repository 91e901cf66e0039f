-- What the proofs of several functions use.
pub mod Blanks
pub mod Digits
pub mod Escapes
pub mod Steps
pub mod Strings
pub mod Wide
