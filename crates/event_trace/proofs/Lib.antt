pub mod Answered
pub mod LineTexts
pub mod Gathered
