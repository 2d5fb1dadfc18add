pub mod NestedCalls
pub mod ForParts
pub mod Parsed
