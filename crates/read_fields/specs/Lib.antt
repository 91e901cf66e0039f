pub mod Fields
pub mod Reading
pub mod Dates
pub mod DateParts
pub mod DaySets
