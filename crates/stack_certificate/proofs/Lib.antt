mod Common
pub mod AddressLemmas
pub mod FitsLemmas
pub mod PartLemmas
pub mod PlaceLemmas
pub mod PushedLemmas
pub mod SizeLemmas
pub mod SlotLemmas
pub mod WordLemmas
