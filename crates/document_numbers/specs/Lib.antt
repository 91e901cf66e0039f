pub mod Number
pub mod Point
pub mod Examples
