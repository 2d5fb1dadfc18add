mod Common
mod Jumps
pub mod MoreReady
mod Groups
