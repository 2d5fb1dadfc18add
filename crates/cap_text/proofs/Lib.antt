mod Common
pub mod DecimalLaws
pub mod FieldRefusals
pub mod LineLaws
pub mod PieceLaws
pub mod PieceSteps
pub mod Refusals
pub mod ShortNumbers
pub mod Spellings
