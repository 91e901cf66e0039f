pub mod Begins
pub mod Depth
pub mod Leading
pub mod Open
pub mod Utf8
