pub mod ResourceLaws
pub mod QueueLaws
pub mod Sent
