-- What the proofs of several functions use, and that each contract allows one answer.
mod Words
mod Frames
mod Walks
mod Turns
pub mod Determined
