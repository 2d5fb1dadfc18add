mod Common
pub mod SiteLemmas
pub mod Enough
