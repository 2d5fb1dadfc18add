mod Common
pub mod ChainTemporaries
pub mod Maps
pub mod ExprEquations
pub mod StmtEquations
pub mod Cuts
pub mod SiteNumbers
pub mod LongerSizes
pub mod RawExprEquations
pub mod RawStmtEquations
pub mod WholeInFors
