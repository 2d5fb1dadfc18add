pub mod LawfulChoice
pub mod NodeQueues
pub mod Queues
pub mod Scores
pub mod Search
pub mod State
