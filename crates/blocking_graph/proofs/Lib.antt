mod Common
pub mod AverageLemmas
pub mod EdgeLemmas
pub mod PredictionLemmas
pub mod GraphLemmas
pub mod PairLemmas
pub mod PlaceLemmas
pub mod SumLemmas
pub mod NoteLemmas
