use Rattle.capriccio_commands.proofs.Making.{policy-ranges}
use Rattle.capriccio_commands.proofs.running.made_world.Goals as goal

pub make-requires : goal.make-requires
make-requires c = rw c.world_policy.ensures (policy-ranges c.args.policy c.args.accepted c.requires.range c.requires.pool)
