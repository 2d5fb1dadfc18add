pub mod BackEdges
pub mod BottomUp
pub mod Trail
pub mod Walk
