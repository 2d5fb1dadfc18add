use Rattle.std.proofs.Common.{◌∙◌}
use Rattle.thread_core.proofs.AllLaws.{any_elsewhere_told}
use Rattle.thread_core.proofs.telling.WorldReady.any_elsewhere.Goals as goal

pub returns : goal.returns
returns c = rw (← c.self.view_is) (c.any_elsewhere.ensures ∙ any_elsewhere_told c.self.inside.accepted c.self.inside.most c.self.inside.state c.self.invariant.state)
