pub mod Nodes
pub mod Strides
pub mod Rules
