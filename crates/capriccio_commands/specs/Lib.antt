pub mod Ends
pub mod MadeWorlds
pub mod Closings
pub mod Summary
pub mod Demos
pub mod FitLogs
