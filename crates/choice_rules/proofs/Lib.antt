mod Common
pub mod Tests
pub mod Strides
pub mod Points
pub mod Rules
pub mod Waiters
pub mod Queues
pub mod Joining
pub mod Leaving
pub mod GraphChoices
pub mod Changes
pub mod Past
pub mod Clocks
pub mod Deciding
pub mod TraceLines
