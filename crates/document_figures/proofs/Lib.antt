-- What the proofs of several functions use, here and in document_numbers.
pub mod Bytes
