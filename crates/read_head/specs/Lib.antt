pub mod Heads
pub mod HeadRows
