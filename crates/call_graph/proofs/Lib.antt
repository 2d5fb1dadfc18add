mod Common
pub mod FlatLemmas
pub mod IndexLemmas
pub mod ListLemmas
