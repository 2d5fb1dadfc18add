mod Common
pub mod Composing
pub mod Judge
pub mod Lined
pub mod Judged
pub mod Telling
pub mod OtherOuts
