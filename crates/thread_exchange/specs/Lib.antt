pub mod Exchanges
pub mod Inside
