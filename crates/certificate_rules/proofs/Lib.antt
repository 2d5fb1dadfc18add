pub mod HoldsLemmas
pub mod ValidLemmas
