pub mod Moving
pub mod Read
pub mod Count
pub mod Examples
