mod Common
pub mod SiteLemmas
pub mod RuleLemmas
pub mod BelowLemmas
