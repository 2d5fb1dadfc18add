mod Common
pub mod Causes
pub mod FactFields
pub mod Heads
pub mod LineSplits
pub mod LineTexts
pub mod Numbers
pub mod Otherwise
pub mod Passing
pub mod Rising
pub mod Spellings
pub mod TitleLine
pub mod Written
