pub mod Padded
pub mod Characters
pub mod Bytes
pub mod Examples
