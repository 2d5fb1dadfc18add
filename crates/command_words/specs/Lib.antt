pub mod OptionTable
pub mod Said
pub mod Values
pub mod WordList
pub mod Parse
pub mod Asked
pub mod Shared
