pub mod Averages
pub mod EntryRanges
pub mod EntryText
pub mod Readings
pub use Rattle.buffered_writer.specs.Puts
pub use Rattle.buffered_writer.specs.Writing
