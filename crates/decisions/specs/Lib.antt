pub mod NestedFors
pub mod Decided
pub mod ReadAgain
pub mod Told
pub mod Looked
pub mod Given
pub mod Written
