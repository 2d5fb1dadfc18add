pub mod SourceTexts
pub mod EveryWhole
