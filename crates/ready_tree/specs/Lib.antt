pub mod Needs
pub mod Nodes
pub mod Next
pub mod Entries
pub mod Trees
pub mod Kept
pub mod NeedTrees
