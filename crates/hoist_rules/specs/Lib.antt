pub mod HoistExamples
pub mod EarlierParts
pub mod Receivers
pub mod Singles
