use Rattle.std.proofs.Common.{◌∙◌, sym}
use Rattle.thread_core.proofs.TellingLaws.{accept_told}
use Rattle.thread_core.proofs.telling.WorldReady.at_accept.Goals as goal

pub returns : goal.returns
returns c = rw (← c.self.view_is) (c.at_accept.ensures ∙ sym (accept_told c.self.inside.accepted c.self.inside.most c.self.inside.state c.self.invariant.state c.args.thread))
