mod Common
pub mod Leading
pub mod Analyses
pub mod Built
pub mod OneBuild
mod Budgeted
mod Reading
