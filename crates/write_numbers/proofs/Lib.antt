-- What the proofs of several functions use.
mod Digits
mod Fractions
mod Cycles
