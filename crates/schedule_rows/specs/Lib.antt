pub mod Eighths
pub mod Needs
