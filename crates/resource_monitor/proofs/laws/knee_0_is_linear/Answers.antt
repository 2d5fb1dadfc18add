use Rattle.resource_monitor.proofs.CurveLemmas.{knee-zero}
use Rattle.resource_monitor.proofs.laws.knee_0_is_linear.Goals as goal

pub returns : goal.returns
returns c = knee-zero
