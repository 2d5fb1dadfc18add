mod Common
pub mod Words
pub mod Functions
pub mod Ranges
pub mod Scopes
pub mod Stored
pub mod Moved
pub mod Keys
