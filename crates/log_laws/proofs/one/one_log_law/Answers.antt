use Rattle.log_laws.proofs.Starting.{one_log}
use Rattle.log_laws.proofs.one.one_log_law.Goals as goal

pub returns : goal.returns
returns c' = λ g trace scoped valid areas fuel. one_log g scoped valid areas fuel trace
