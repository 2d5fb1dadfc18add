use Rattle.schedule_audit.proofs.Common.{◌≡◌, true, false, Ok, refl, ◌∙◌, subst, sym, Ruling, RulesStop, Kept, IsTold, going_on, none_left, some_left, stop_early, stop_ends, stop_not}
use Rattle.schedule_audit.proofs.ends.stop.Goals as goal

pub returns-then-not-over-clause-rules : goal.returns-then-not-over-clause-rules
returns-then-not-over-clause-rules g c = λ given state stands.
    let old = c.args.reading.now in
    let told = g.S.Source.left c.args.trace.now in
    stop_early given state old told c.args.stop c.stop_cause.new.reading (g.S.Source.left c.stop_cause.new.trace)
    (subst (λ (r : Ruling). RulesStop given state old told c.args.stop (Ok r)) c.in-Allowed.is (c.in_ok-stop_cause.ensures.rules given state stands))
    (some_left given state old stands c.requires.going (λ over. let both : true ≡ false = sym (c.in_ok-over.ensures.over.1 over) ∙ c.if-not-over.true in absurd (cc)))

pub returns-else-not-over-clause-rules : goal.returns-else-not-over-clause-rules
returns-else-not-over-clause-rules g c = λ given state stands.
    let old = c.args.reading.now in
    let told = g.S.Source.left c.args.trace.now in
    let ruled = subst (λ (r : Ruling). RulesStop given state old told c.args.stop (Ok r)) c.in-Allowed.is (c.in_ok-stop_cause.ensures.rules given state stands) in
    let trace = c.in_ok-stop_cause.ensures.trace given state stands in
    let none = none_left given state old stands c.requires.going (c.in_ok-over.ensures.over.0 c.if-not-over.false) in
    stop_ends given state old told c.args.stop _ (g.S.Source.left c.stop_cause.new.trace) ruled (going_on given state old.end stands.end_is c.requires.going) none
    (λ t. subst (λ (x : Kept). IsTold state x (g.S.Source.left c.stop_cause.new.trace)) (sym c.reading.view_is) (trace t)) refl

pub returns-in-Refused-clause-rules : goal.returns-in-Refused-clause-rules
returns-in-Refused-clause-rules g c = λ given state stands.
    let old = c.args.reading.now in
    let told = g.S.Source.left c.args.trace.now in
    stop_not given state old told c.args.stop c.stop_cause.new.reading (g.S.Source.left c.stop_cause.new.trace)
    (subst (λ (r : Ruling). RulesStop given state old told c.args.stop (Ok r)) c.in-Refused.is (c.in_ok-stop_cause.ensures.rules given state stands))

pub returns-in-OutOfSteps-clause-rules : goal.returns-in-OutOfSteps-clause-rules
returns-in-OutOfSteps-clause-rules g c = λ given state stands.
    let old = c.args.reading.now in
    let told = g.S.Source.left c.args.trace.now in
    subst (λ (r : Ruling). RulesStop given state old told c.args.stop (Ok r)) c.in-OutOfSteps.is (c.in_ok-stop_cause.ensures.rules given state stands)
