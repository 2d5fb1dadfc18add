pub mod Callees
pub mod FlatCalls
pub mod Graph
pub mod Index
pub mod Lists
pub mod Paths
