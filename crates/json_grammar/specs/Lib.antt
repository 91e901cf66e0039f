pub mod Rows
pub mod Byte
pub mod Tree
pub mod String
pub mod Number
pub mod Part
pub mod Grammar
pub mod Walk
