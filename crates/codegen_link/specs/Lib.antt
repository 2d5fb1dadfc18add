pub mod Emission
pub mod Layout
pub mod Links
pub mod Plans
