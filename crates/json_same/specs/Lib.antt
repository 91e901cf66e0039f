pub mod Naming
mod Examples
