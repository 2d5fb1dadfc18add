mod Common
pub mod Limits
pub mod RisingLists
pub mod OnePlan
pub mod LoweredGraph
