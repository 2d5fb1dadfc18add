mod Common
pub mod FirstLemmas
pub mod MarkLemmas
pub mod PieceLemmas
pub mod NamedLemmas
pub mod CodeLemmas
pub mod RangeLemmas
pub mod FrameLemmas
pub mod FitLemmas
