use Rattle.thread_waits.proofs.Common.{◌≡◌, true, false, sym, ◌∙◌, arith, list_any, is_at_accept}
use Rattle.thread_waits.proofs.AnyLaws.{any_from_count, none_from_count}
use Rattle.thread_waits.proofs.KindLaws.{ready_elsewhere, ready_nowhere, ready_accept}
use Rattle.thread_waits.proofs.waits.Waits.any_ready.Goals as goal

pub returns-then-any_elsewhere : goal.returns-then-any_elsewhere
returns-then-any_elsewhere c = sym (ready_elsewhere c.args.exchange.now.caps c.args.exchange.now.exchange c.args.self.now (sym c.any_elsewhere.ensures ∙ c.if-any_elsewhere.true))

pub returns-then-self-eq0 : goal.returns-then-self-eq0
returns-then-self-eq0 c =
    let none : list_any is_at_accept c.args.self.now.places ≡ false =
    rw (← c.self.view_is) (none_from_count is_at_accept c.self.inside.places.items (rw (← c.self.invariant.at_accept) (omega arith))) in
    sym (ready_nowhere c.args.exchange.now.caps c.args.exchange.now.exchange c.args.self.now (sym c.any_elsewhere.ensures ∙ c.if-any_elsewhere.false) none)

pub returns : goal.returns
returns c =
    let some : list_any is_at_accept c.args.self.now.places ≡ true =
    rw (← c.self.view_is) (any_from_count is_at_accept is_at_accept (λ wait e. e) c.self.inside.places.items (rw (← c.self.invariant.at_accept) (omega arith))) in
    c.holds_arrival.ensures ∙ sym (ready_accept c.args.exchange.now.caps c.args.exchange.now.exchange c.args.self.now (sym c.any_elsewhere.ensures ∙ c.if-any_elsewhere.false) some)
