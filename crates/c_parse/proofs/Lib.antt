mod Common
pub mod NestedWhole
pub mod ForWhole
pub mod CallChains
pub mod ParseRules
