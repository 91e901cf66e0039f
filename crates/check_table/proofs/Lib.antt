-- What the proofs of several functions use.
mod Utf8Chars
mod Checked
mod Details
mod Heads
mod LiesDetail
pub mod FoundDetail
mod Laid
pub mod Stands
mod Pieces
pub mod HeadValues
pub mod Read
