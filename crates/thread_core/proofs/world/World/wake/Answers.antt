use Rattle.thread_core.proofs.AllLaws.{wake_told}
use Rattle.thread_core.proofs.world.World.wake.Goals as goal

pub returns : goal.returns
returns c = rw (← c.self.view_is) (wake_told c.self.inside.accepted c.self.inside.most c.self.inside.state c.self.invariant.state c.wake.result c.wake.ensures)
