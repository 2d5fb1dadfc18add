mod Common
pub mod ChoiceLemmas
pub mod CoverLemmas
pub mod FindLemmas
pub mod OrderLemmas
pub mod QueueLemmas
pub mod ScoreLemmas
pub mod StateLemmas
