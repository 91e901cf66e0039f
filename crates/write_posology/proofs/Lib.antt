-- What the proofs of several functions use, here and in writer.
pub mod HeadParts
