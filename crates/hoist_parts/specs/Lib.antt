pub mod NewNames
pub mod Calls
pub mod Expressions
pub mod Statements
pub mod Chains
pub mod Arguments
