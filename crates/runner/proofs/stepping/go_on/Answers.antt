use Rattle.runner.proofs.Common.{◌≡◌, ◌∙◌, false, None, Option, sym, subst, arith, Event, is_due, output_of, IsAtChoice, IsAtPoint, holds_on_ok, part_counts, part_ends, part_falls, part_unrefused}
use Rattle.runner.proofs.Pointed.{not_due_none, not_due_event, waited}
use Rattle.runner.proofs.stepping.go_on.Goals as goal
use Rattle.runner.proofs.stepping.go_on.Goals.{in-Some+else-event-clock, in_default}

pub returns-then-any_ready-clause-ends : goal.returns-then-any_ready-clause-ends
returns-then-any_ready-clause-ends g c = λ s state left at.
    let not_due : is_due c.args.next c.args.world.now.machine.clock ≡ false = elim c.match-next.branch [
      | in-Some+else-event-clock w ↦ not_due_event s state c.args.course.now c.args.world.now left c.args.next at w.in-Some.event w.in-Some.is (λ h. let below = w.if-event-clock.false in let same = w.clock.ensures in omega (arith, h, below, same))
      | in_default w ↦ not_due_none s state c.args.course.now c.args.world.now left c.args.next at w.in_default.is
    ] in
    let choice : IsAtChoice s state c.args.course.now c.args.world.now left c.args.next = record { point = at; not_due = not_due; ready = sym c.any_ready.ensures ∙ c.if-any_ready.true } in
    part_ends s state left c.choose.new.self c.choose.new.world left (output_of c.args.writer.now (g.K.Sink.taken c.args.out.now)) (output_of c.choose.new.writer (g.K.Sink.taken c.choose.new.out))
    c.choose.result c.goes_on-then-any_ready.result c.goes_on-then-any_ready.ensures (c.choose.ensures.ends s state left c.args.next choice)

pub returns-then-any_ready-clause-counts : goal.returns-then-any_ready-clause-counts
returns-then-any_ready-clause-counts g c =
    part_counts c.choose.result c.goes_on-then-any_ready.result (g.K.Sink.faults c.args.out.now) (g.K.Sink.faults c.choose.new.out) c.goes_on-then-any_ready.ensures c.choose.ensures.counts

pub returns-then-any_ready-clause-unrefused : goal.returns-then-any_ready-clause-unrefused
returns-then-any_ready-clause-unrefused g c =
    part_unrefused (c.choose.new.writer.refused ≡ None) c.choose.result c.goes_on-then-any_ready.result c.goes_on-then-any_ready.ensures c.choose.ensures.unrefused

pub returns-then-any_ready-clause-falls : goal.returns-then-any_ready-clause-falls
returns-then-any_ready-clause-falls g c =
    part_falls c.choose.result c.goes_on-then-any_ready.result c.goes_on-then-any_ready.ensures c.args.course.now c.choose.new.self c.args.world.now c.choose.new.world
    (holds_on_ok _ c.choose.result c.choose.ensures.falls)

pub returns-clause-ends : goal.returns-clause-ends
returns-clause-ends g c = λ s state left at.
    let same : c.match-next.next ≡ c.args.next = elim c.match-next.branch [ in-Some+else-event-clock w ↦ w.next-is ∙ sym w.in-Some.is | in_default w ↦ w.next-is ] in
    let here = subst (λ (o : Option Event). IsAtPoint s state c.args.course.now c.args.world.now left o) (sym same) at in
    waited s state c.args.course.now c.args.world.now left c.match-next.next here c.wait.new.world c.wait.result (output_of c.args.writer.now (g.K.Sink.taken c.args.out.now)) (c.wait.ensures.ends s state c.args.course.now left here)
