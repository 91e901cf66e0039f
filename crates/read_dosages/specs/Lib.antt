pub mod Visiting
pub mod Kept
pub mod Timed
