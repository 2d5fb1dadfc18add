mod Common
pub mod Decimals
pub mod NoCalls
pub mod ChainLemmas
pub mod HeldChains
pub mod Kept
pub mod Whole
pub mod Temporaries
pub mod Names
