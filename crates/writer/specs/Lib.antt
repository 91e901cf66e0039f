pub mod ByWords
pub mod Fits
