pub mod Puts
pub mod Writing
