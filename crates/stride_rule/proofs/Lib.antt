mod Common
pub mod OrderLemmas
pub mod ClientLemmas
pub mod RowLemmas
pub mod SearchLemmas
pub mod SummaryLemmas
pub mod LevelLemmas
pub mod SpreadLemmas
pub mod StateLemmas
pub mod NotingLemmas
