pub mod Survey
pub mod Answers
