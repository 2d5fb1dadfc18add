mod Common
pub mod Gathered
pub mod Readings
pub mod Seen
pub mod Kept
pub mod Paired
pub mod PairedOnce
pub mod FollowedOnce
pub mod AnsweringKept
pub mod Outputs
pub mod OutputsOf
pub mod OutputsInTurn
