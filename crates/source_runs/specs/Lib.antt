pub mod Layouts
pub mod Threads
pub mod Steps
