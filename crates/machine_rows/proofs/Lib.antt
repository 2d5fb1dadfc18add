pub mod PoolRows
pub mod Standing
pub mod WordRows
