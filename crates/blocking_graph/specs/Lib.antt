pub mod Averages
pub mod Edges
pub mod Graph
pub mod Nodes
pub mod Pairs
pub mod Sums
