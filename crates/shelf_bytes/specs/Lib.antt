pub mod Marks
pub mod Layout
