pub mod Standing
pub mod Storing
