-- What the proofs of several functions use.
mod Turns
mod Pairs
