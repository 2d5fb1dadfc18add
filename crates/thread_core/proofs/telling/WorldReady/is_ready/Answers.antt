use Rattle.std.proofs.Common.{◌∙◌, sym}
use Rattle.thread_core.proofs.TellingLaws.{ready_told, untrapped_for}
use Rattle.thread_core.proofs.telling.WorldReady.is_ready.Goals as goal

pub is_ready-requires : goal.is_ready-requires
is_ready-requires c = untrapped_for c.self.inside.accepted c.self.inside.most c.self.inside.state c.self.invariant.state c.args.thread

pub returns : goal.returns
returns c = rw (← c.self.view_is) (c.is_ready.ensures ∙ sym (ready_told c.self.inside.accepted c.self.inside.most c.self.inside.state c.self.invariant.state c.args.thread))
