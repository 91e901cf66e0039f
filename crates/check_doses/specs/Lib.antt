pub mod Shapes
pub mod Doses
