pub mod Zeros
pub mod Sums
