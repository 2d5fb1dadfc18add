mod Common
pub mod Plans
pub mod Together
pub mod Frames
