pub mod AreaBack
pub mod ByParts
pub mod Groups
mod InFits
mod Numbers
mod Parts
