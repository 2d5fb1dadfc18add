use Rattle.std.proofs.Common.{refl}
use Rattle.hoist_rules.proofs.examples.loops_test_calls.Goals as goal

pub returns : goal.returns
returns c = refl
