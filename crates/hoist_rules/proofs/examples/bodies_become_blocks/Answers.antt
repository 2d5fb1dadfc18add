use Rattle.std.proofs.Common.{refl}
use Rattle.hoist_rules.proofs.examples.bodies_become_blocks.Goals as goal

pub returns : goal.returns
returns c = refl
