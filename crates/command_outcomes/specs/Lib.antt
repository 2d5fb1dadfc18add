pub mod FaultLines
pub mod Outcome
pub mod CauseLines
pub mod Done
pub mod Steps
