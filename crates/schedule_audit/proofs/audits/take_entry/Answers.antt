use Rattle.std.specs.Int.{w128}
use Rattle.schedule_audit.proofs.Common.{◌∙◌, ℤ, None, Some, ap, refl, subst, sym, FitsSigned, of_z, to_z, rules, to_z-of_z, Entry, WithinSomehow, Kept, StandsBetweenSomehow, counts_alone}
use Rattle.schedule_audit.proofs.Lined.{between_somehow, no_end, none_taken, point_line, rules_as, segment_line, segment_memory, some_taken, taken_is, within_somehow}
use Rattle.schedule_audit.proofs.audits.take_entry.Goals as goal

pub returns-in-Edge-clause-rules : goal.returns-in-Edge-clause-rules
returns-in-Edge-clause-rules g c = λ s state stands.
    let fits : FitsSigned w128 c.in-Edge.cost = search rules in
    rules_as s state c.args.reading.now c.args.entry (Entry.Edge c.in-Edge.from c.in-Edge.to c.in-Edge.count (to_z w128 (of_z w128 c.in-Edge.cost)) c.in-Edge.changes) (g.S.Source.left c.args.trace.now) c.edge.new.self (g.S.Source.left c.edge.new.trace) c.edge.result
    (c.in-Edge.is ∙ ap (λ (v : ℤ). Entry.Edge c.in-Edge.from c.in-Edge.to c.in-Edge.count v c.in-Edge.changes) (sym (to_z-of_z w128 c.in-Edge.cost fits))) (c.edge.ensures.rules s state stands)

pub returns-in-Stop-clause-rules : goal.returns-in-Stop-clause-rules
returns-in-Stop-clause-rules g c = λ s state stands.
    rules_as s state c.args.reading.now c.args.entry _ (g.S.Source.left c.args.trace.now) c.stop.new.reading (g.S.Source.left c.stop.new.trace) c.stop.result c.in-Stop.is (c.stop.ensures.rules s state stands)

pub returns-in-None-clause-rules : goal.returns-in-None-clause-rules
returns-in-None-clause-rules g c = λ s state stands.
    let k = c.args.reading.now in
    point_line s state k stands _ (none_taken _ k c.reading.view_is c.take.result c.take.new.self c.take.ensures.value c.take.ensures.after c.in-None.is) c.args.entry (g.S.Source.left c.args.trace.now) c.take_at_point.new.reading (g.S.Source.left c.take_at_point.new.trace) c.take_at_point.result
    (c.take_at_point.ensures.rules s state)

pub returns-in-Some-clause-rules : goal.returns-in-Some-clause-rules
returns-in-Some-clause-rules g c = λ s state stands.
    let k = c.args.reading.now in
    segment_line s state k stands c.requires.going _ (some_taken _ k c.reading.view_is c.take.new.self c.take.ensures.after) c.in-Some.under (taken_is _ k c.reading.view_is c.take.result (Some c.in-Some.under) c.take.ensures.value c.in-Some.is) c.args.entry
    (g.S.Source.left c.args.trace.now) c.take_in_segment.new.reading c.take_in_segment.result (c.take_in_segment.ensures s state)

pub returns-in-Some-clause-counts : goal.returns-in-Some-clause-counts
returns-in-Some-clause-counts g c =
    let k = c.args.reading.now in
    let p = c.requires.stands in
    counts_alone c.take_in_segment.result (g.S.Source.faults c.args.trace.now) (g.S.Source.faults c.args.trace.now) refl
    (segment_memory p.0 p.1 k p.2 c.requires.going _ (some_taken _ k c.reading.view_is c.take.new.self c.take.ensures.after) c.in-Some.under (taken_is _ k c.reading.view_is c.take.result (Some c.in-Some.under) c.take.ensures.value c.in-Some.is) c.args.entry c.take_in_segment.new.reading
    c.take_in_segment.result (c.take_in_segment.ensures p.0 p.1))

pub take_at_point-requires-clause-between : goal.take_at_point-requires-clause-between
take_at_point-requires-clause-between g c =
    let k = c.args.reading.now in
    subst (λ (x : Kept). StandsBetweenSomehow x) (sym (none_taken _ k c.reading.view_is c.take.result c.take.new.self c.take.ensures.value c.take.ensures.after c.in-None.is))
    (between_somehow k c.requires.stands c.requires.going (taken_is _ k c.reading.view_is c.take.result None c.take.ensures.value c.in-None.is))

pub take_at_point-requires-clause-line : goal.take_at_point-requires-clause-line
take_at_point-requires-clause-line g c = no_end c.args.entry c.in_default.not-Edge c.in_default.not-Stop

pub take_in_segment-requires-clause-within : goal.take_in_segment-requires-clause-within
take_in_segment-requires-clause-within g c =
    let k = c.args.reading.now in
    subst (λ (x : Kept). WithinSomehow x.core c.in-Some.under) (sym (some_taken _ k c.reading.view_is c.take.new.self c.take.ensures.after))
    (within_somehow k c.requires.stands c.requires.going c.in-Some.under (taken_is _ k c.reading.view_is c.take.result (Some c.in-Some.under) c.take.ensures.value c.in-Some.is))

pub take_in_segment-requires-clause-line : goal.take_in_segment-requires-clause-line
take_in_segment-requires-clause-line g c = no_end c.args.entry c.in_default.not-Edge c.in_default.not-Stop
