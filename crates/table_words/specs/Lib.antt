pub mod ByWords
pub mod Laying
