pub mod Limit
pub mod SiteKey
pub mod Word
pub mod Rows
pub mod ModelledCalls
pub mod Calls
pub mod Signatures
pub mod Runs
