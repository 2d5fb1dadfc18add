mod Common
pub mod LayoutLemmas
pub mod ChainLemmas
pub mod WorldLemmas
pub mod TextLemmas
pub mod StandLemmas
pub mod WorldStandLemmas
pub mod SegmentLemmas
pub mod CallLemmas
pub mod JumpLemmas
