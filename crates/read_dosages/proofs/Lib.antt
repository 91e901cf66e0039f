-- What the proofs of several functions use.
pub mod Rowed
pub mod Bodies
mod Alike
mod Known
pub mod Chunks
mod Applied
pub mod Listing
mod Parents
pub mod Below
mod TimedBodies
