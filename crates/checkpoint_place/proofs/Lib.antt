mod Common
pub mod BoundLemmas
pub mod KnownLemmas
pub mod PlanLemmas
pub mod WeightLemmas
