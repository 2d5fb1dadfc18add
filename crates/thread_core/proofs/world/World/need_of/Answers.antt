use Rattle.thread_core.proofs.TellingLaws.{need_told, waits_told, some_need, has_own}
use Rattle.thread_core.proofs.Common.{◌∙◌, sym, waits_for_in}
use Rattle.thread_core.proofs.world.World.need_of.Goals as goal

pub unreachable-requires : goal.unreachable-requires
unreachable-requires c =
    let st = c.self.inside.state in
    let waits = rw (← c.self.view_is) at c.requires in
    some_need c.self.inside.accepted c.self.inside.most st c.self.invariant.state (waits_for_in st c.args.thread)
    (sym (waits_told c.self.inside.accepted c.self.inside.most st c.self.invariant.state c.args.thread) ∙ waits) (sym c.need_of.ensures ∙ c.in_default.is)

pub returns : goal.returns
returns c =
    let st = c.self.inside.state in
    rw (← c.self.view_is)
    (need_told c.self.inside.accepted c.self.inside.most st c.self.invariant.state c.in-Some.need c.args.thread
    ∙ has_own c.self.inside.accepted c.self.inside.most st c.self.invariant.state c.in-Some.need (waits_for_in st c.args.thread) (sym c.need_of.ensures ∙ c.in-Some.is))
