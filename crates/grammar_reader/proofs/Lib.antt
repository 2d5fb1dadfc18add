mod Common
pub mod Runs
pub mod ExprRules
pub mod OperandRules
pub mod BracketRules
pub mod SimpleRules
pub mod LocalRules
pub mod SignTests
pub mod Paths
pub mod HeldValues
pub mod PlainRules
pub mod LoopRules
pub mod BodyRules
pub mod ParameterRules
pub mod GlobalRules
pub mod TableRules
pub mod FunctionRules
pub mod ItemRules
