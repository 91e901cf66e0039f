-- What the proofs of several functions use.
pub mod Ahead
pub mod Lengths
pub mod Ascii
pub mod Runs
pub mod Tables
