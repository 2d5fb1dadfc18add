mod Common
pub mod LeastLemmas
pub mod CoverLemmas
pub mod RootLemmas
pub mod CheckLemmas
pub mod MadeLemmas
pub mod KnownLemmas
pub mod LeastBudgetLemmas
pub mod CycleLemmas
