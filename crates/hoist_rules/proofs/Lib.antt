mod Common
pub mod ValueChains
pub mod Operands
pub mod ArgumentTurns
pub mod BodyTurns
pub mod OperatorTurns
pub mod CallTurns
pub mod Followed
pub mod MovedCalls
