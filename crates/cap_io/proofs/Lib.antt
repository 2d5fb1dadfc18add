pub mod Pieces
pub mod Fronts
pub mod EntryList
pub mod Stored
