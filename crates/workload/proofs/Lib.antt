mod Common
pub mod Items
mod Lexed
mod Marks
pub mod Pieces
pub mod Reading
pub mod Resolved
pub mod Scopes
mod Spelling
mod Trees
mod Within
mod Words
mod Shapes
pub mod Built
pub mod Written
