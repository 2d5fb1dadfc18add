pub mod LeastSite
pub mod Answers
pub mod Refusals
