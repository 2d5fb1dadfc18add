mod Common
pub mod BottomUpLemmas
pub mod BottomUpOrders
pub mod FinishLemmas
pub mod NumberLemmas
pub mod OrderLemmas
pub mod PathLemmas
pub mod RankLemmas
pub mod SeenLemmas
pub mod SiteLemmas
pub mod WalkLemmas
