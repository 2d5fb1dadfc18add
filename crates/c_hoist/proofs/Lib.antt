mod Common
pub mod EveryNested
pub mod Rewriting
pub mod SameNumbers
pub mod WholeKept
pub mod WholeReads
pub mod Meaning
