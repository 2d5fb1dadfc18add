pub mod WordLemmas
pub mod WordRange
pub mod RunLemmas
pub mod Following
pub mod CallLemmas
