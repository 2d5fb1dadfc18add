mod Common
pub mod ImageLemmas
pub mod WordBytes
pub mod NoRefusal
pub mod ReadAgain
pub mod Spelled
