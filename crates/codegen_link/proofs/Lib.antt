mod Common
pub mod AddressLemmas
pub mod CodeLemmas
pub mod FactLemmas
pub mod InstructionLemmas
pub mod NamedLemmas
pub mod PlaceLemmas
pub mod RowLemmas
pub mod SiteLemmas
pub mod StepLemmas
pub mod ValidLemmas
