mod Common
pub mod Stacks
pub mod Loops
pub mod Pairs
