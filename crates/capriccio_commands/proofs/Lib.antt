mod Common
pub mod Stopped
pub mod Making
pub mod Counting
pub mod FitCounting
pub mod Shown
pub mod Workloads
