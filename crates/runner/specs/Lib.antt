pub mod Ends
pub mod Answers
pub mod Waits
pub mod HeldBack
