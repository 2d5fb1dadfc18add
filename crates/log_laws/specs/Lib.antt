pub mod One
pub mod Lives
pub mod Roots
pub mod Rooms
