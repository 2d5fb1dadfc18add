pub mod Operations
pub mod ExprCode
pub mod Chains
pub mod CallCode
pub mod StmtCode
pub mod StmtSizes
pub mod ProgramCode
