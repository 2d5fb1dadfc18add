mod Common
pub mod ClosedLemmas
pub mod MarkLemmas
pub mod OrderLemmas
pub mod ReversedLemmas
pub mod WalkLemmas
