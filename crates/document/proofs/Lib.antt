-- Laws of the definitions that code is proved by; what texts mean is proved in document_meaning.
pub mod Same
pub mod Ranges
pub mod Strings
pub mod Utf8Tests
pub mod Utf8Sequences
-- Days and dates
pub mod Days
pub mod DaySets
pub mod DayNumbers
pub mod RealDates
mod Calendar
-- What is valid, part by part
pub mod DetailParts
pub mod ValidParts
-- What is taken while reading
pub mod Taken
-- What is written
pub mod Written
pub mod WrittenDates
pub mod Sizes
-- Tables
pub mod WordsBack
pub mod WordRows
pub mod Untables
pub mod Untabled
pub mod Tables
