pub mod Loads
pub mod Loaded
