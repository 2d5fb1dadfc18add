pub mod Pool
pub mod Chunks
pub mod Block
pub mod Region
