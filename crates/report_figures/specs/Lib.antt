pub mod Ticks
pub mod Columns
pub mod Positions
pub mod Ranks
pub mod Windows
