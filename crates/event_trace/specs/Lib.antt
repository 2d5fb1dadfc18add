pub mod Blocks
pub mod Gathering
pub mod LineFields
pub mod Lines
pub mod Reader
