pub mod Ranges
pub mod Sites
pub mod Rules
pub mod Validity
