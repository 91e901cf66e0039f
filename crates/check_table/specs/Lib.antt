pub mod Checks
pub mod Readable
