pub mod Addresses
pub mod Refusal
pub mod Spelling
pub mod Reading
