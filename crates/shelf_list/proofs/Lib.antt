-- Statements
pub mod Shelves
pub mod Wish2
mod Examples
-- Areas and lists
pub mod Records
pub mod Areas
pub mod Under
pub mod Ends
pub mod Lists
pub mod Grounds
pub mod Runs
pub mod Totals
pub mod Stored
pub mod Served
pub mod Endings
-- For the code: the walk over an area, and the bytes that a call changes
pub mod Walks
pub mod Edits
