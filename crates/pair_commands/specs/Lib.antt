pub mod Pairs
pub mod Graphs
pub mod BuildsFiles
pub mod Budgets
pub mod Checks
pub mod Runs
pub mod RunSteps
