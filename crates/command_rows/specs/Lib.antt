pub mod Given
pub mod Moments
