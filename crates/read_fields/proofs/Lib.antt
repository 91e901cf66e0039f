-- What the proofs of several functions use, and what those of the crates above cite: the elements of a list, and refusals.
pub mod Elements
pub mod Refusals
mod DateLaws
mod DateLengths
mod ValueKinds
mod Values
mod Held
mod Texts
mod DateFields
mod Fours
mod DayLaws
mod DayElements
