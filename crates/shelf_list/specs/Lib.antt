pub mod Shelf
pub mod Calls
pub mod History
pub mod Grounds
