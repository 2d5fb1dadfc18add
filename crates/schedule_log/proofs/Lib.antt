mod Common
pub mod EntryPieces
pub mod EntryUnique
pub mod Filled
pub mod KeyPieces
pub mod ListsRead
pub mod LogLines
pub mod Pushed
pub use Rattle.buffered_writer.proofs.Written
