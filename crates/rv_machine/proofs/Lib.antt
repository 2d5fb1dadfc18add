mod Common
pub mod AccessLaws
pub mod Lists
pub mod Memories
pub mod Quiet
pub mod WordBytes
pub mod WordLaws
