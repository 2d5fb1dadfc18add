pub mod First
pub mod Marks
pub mod Named
pub mod TablesOf
