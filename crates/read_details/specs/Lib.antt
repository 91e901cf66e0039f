pub mod Rows
pub mod Detail
pub mod Holding
