mod Common
pub mod Backs
pub mod Waited
pub mod Waking
pub mod Following
pub mod StepLemmas
pub mod Pointed
pub mod LookedOn
pub mod Rounds
