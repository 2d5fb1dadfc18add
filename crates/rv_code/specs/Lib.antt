pub mod Decoding
pub mod Field
pub mod Format
pub mod Operands
pub mod Range
pub mod Table
