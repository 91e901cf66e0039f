-- What the proofs of several functions use.
mod Digits
mod Point
mod Answers
mod Written
