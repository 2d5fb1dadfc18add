mod Common
pub mod Good
pub mod Words
mod Stretching
mod Going
mod Kept
mod Least
mod Lines
mod Times
mod Runs
pub mod Starting
pub mod StackLemmas
pub mod BoundLemmas
pub mod CountLemmas
pub mod RestLemmas
pub mod StepLemmas
pub mod StartLemmas
pub mod EnoughLemmas
pub mod RunLemmas
pub mod RoomLemmas
pub mod LogLemmas
