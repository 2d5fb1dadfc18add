pub mod Between
pub mod Counts
pub mod Courses
pub mod Holds
pub mod Reasons
