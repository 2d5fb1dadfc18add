pub mod SourceText
