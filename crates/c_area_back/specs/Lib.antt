pub mod Fits
pub mod Parts
