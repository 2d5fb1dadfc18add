pub mod Ending
pub mod Appended
