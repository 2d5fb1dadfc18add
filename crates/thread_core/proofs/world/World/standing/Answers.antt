use Rattle.std.proofs.Common.{◌∙◌, sym}
use Rattle.thread_core.proofs.StandingLaws.{standing_told}
use Rattle.thread_core.proofs.world.World.standing.Goals as goal

pub returns : goal.returns
returns c = rw (← c.self.view_is) (c.standing.ensures ∙ sym (standing_told c.self.inside.accepted c.self.inside.most c.self.inside.state c.self.invariant.state c.args.thread))
