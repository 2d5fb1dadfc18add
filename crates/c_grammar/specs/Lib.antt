pub mod Signs
pub mod Rests
pub mod Machine
pub mod Reading
pub mod Tokens
pub mod Operators
pub mod Grammar
pub mod Refusals
