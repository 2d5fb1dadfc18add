mod Common
pub mod OneBudget
pub mod Handed
pub mod Told
pub mod OnePair
pub mod OneRun
pub mod OneCase
pub mod OutcomeKinds
pub mod TheText
pub mod GoodRun
pub mod Faults
pub mod ToldFiles
pub mod AuditedLog
pub mod EnoughRun
