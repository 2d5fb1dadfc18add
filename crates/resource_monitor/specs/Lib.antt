pub mod Gate
pub mod Monitor
pub mod Pressure
