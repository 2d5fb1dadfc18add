pub mod Cycles
pub mod Marks
pub mod Orders
pub mod Reversed
