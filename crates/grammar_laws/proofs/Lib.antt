mod Common
pub mod Covers
pub mod Forward
pub mod Backward
pub mod Ends
pub mod Agreement
pub mod Verdicts
pub mod Outcome
pub mod TreeAccepted
pub mod TreeUnique
pub mod Walks
pub mod Trees
pub mod RankLaws
pub mod NoNames
