use Rattle.std.proofs.Common.{◌∙◌}
use Rattle.thread_core.proofs.AllLaws.{any_ready_told}
use Rattle.thread_core.proofs.world.World.any_ready.Goals as goal

pub returns : goal.returns
returns c = rw (← c.self.view_is) (c.any_ready.ensures ∙ any_ready_told c.self.inside.accepted c.self.inside.most c.self.inside.state c.self.invariant.state)
