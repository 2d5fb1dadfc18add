pub mod Complements
pub mod Fits
pub mod Inverse
pub mod Layouts
pub mod Rows
