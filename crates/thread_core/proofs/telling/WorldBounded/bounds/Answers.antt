use Rattle.thread_core.proofs.TellingLaws.{ready_told, accept_told, need_told, met_for, arrival_for, at_place}
use Rattle.thread_core.proofs.Common.{◌∙◌, sym, waits_for_in}
use Rattle.thread_core.proofs.telling.WorldBounded.bounds.Goals as goal

pub returns-clause-ready : goal.returns-clause-ready
returns-clause-ready c = λ thread need vouched.
    let st = c.self.inside.state in
    let known = rw (← c.self.view_is) at vouched in
    let has = sym (need_told c.self.inside.accepted c.self.inside.most st c.self.invariant.state need thread) ∙ known in
    rw (← c.self.view_is)
    (ready_told c.self.inside.accepted c.self.inside.most st c.self.invariant.state thread
    ∙ met_for c.self.inside.accepted c.self.inside.most st c.self.invariant.state c.bounds.result need (waits_for_in st thread)
    (λ wait at. c.bounds.ensures thread.slot wait (at_place c.self.inside.accepted c.self.inside.most st c.self.invariant.state thread wait at)) has)

pub returns-clause-at_accept : goal.returns-clause-at_accept
returns-clause-at_accept c = λ thread need vouched.
    let st = c.self.inside.state in
    let known = rw (← c.self.view_is) at vouched in
    let has = sym (need_told c.self.inside.accepted c.self.inside.most st c.self.invariant.state need thread) ∙ known in
    rw (← c.self.view_is)
    (accept_told c.self.inside.accepted c.self.inside.most st c.self.invariant.state thread
    ∙ arrival_for c.self.inside.accepted c.self.inside.most st c.self.invariant.state need (waits_for_in st thread) has)
