pub mod Circles
pub mod Ways
