pub mod Due
pub mod Handing
pub mod TheText
pub mod Headline
pub mod AfterFault
pub mod Audited
pub mod EnoughChunks
