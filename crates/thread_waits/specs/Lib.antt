pub mod Least
pub mod Minima
pub mod Trees
pub mod Waiting
pub mod Counted
pub mod Needs
pub mod Telling
