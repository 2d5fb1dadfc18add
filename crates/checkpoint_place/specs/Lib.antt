pub mod KnownTables
pub mod Placement
pub mod Refusal
pub mod Weights
