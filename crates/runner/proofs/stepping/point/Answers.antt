use Rattle.runner.proofs.Common.{◌≡◌, ◌∙◌, List, Option, Err, length, refl, sym, ap, subst, nil_from_length, err_from_is_err_and, Thread, output_of, Failure, Halt, CountsStep, Kept, rank, FallsTo, Rest, Unasked, StandsBetween, StepEnds, to_between}
use Rattle.runner.proofs.LookedOn.{forget, unasked, unrefused, done_halts, refused_halts, read_fails, at_point, from_before, look_failed, part_counts, look_falls, falls_from}
use Rattle.runner.proofs.StepLemmas.{keeps_same}
use Rattle.runner.proofs.stepping.point.Goals as goal

pub returns-then-live-eq0-clause-ends : goal.returns-then-live-eq0-clause-ends
returns-then-live-eq0-clause-ends g c = λ left knows.
    (left, knows, λ has. has, λ has. has, λ s state stands. done_halts s state c.args.course.now c.args.world.now left stands (output_of c.args.writer.now (g.K.Sink.taken c.args.out.now)) (nil_from_length c.args.world.now.machine.threads (sym c.live.ensures ∙ c.if-live-eq0.true)))

pub returns-then-live-eq0-clause-counts : goal.returns-then-live-eq0-clause-counts
returns-then-live-eq0-clause-counts g c = (refl, refl)

pub returns-then-live-eq0-clause-keeps : goal.returns-then-live-eq0-clause-keeps
returns-then-live-eq0-clause-keeps g c = keeps_same c.args.world.now

pub look-requires : goal.look-requires
look-requires g c = record { unrefused = unrefused c.args.course.now c.args.world.now c.requires.between c.requires.stands }

pub returns-in_err-line-clause-ends : goal.returns-in_err-line-clause-ends
returns-in_err-line-clause-ends g c = λ after knows.
    let p = err_from_is_err_and c.from_residual.result c.from_residual.ensures.1 in
    let looks = c.in_err-line.ensures.looks after knows in
    let left = looks.0 in
    (left, looks.1, looks.2, looks.3, λ s state stands. subst (λ r. StepEnds s state left c.look.new.self c.args.world.now after (output_of c.args.writer.now (g.K.Sink.taken c.args.out.now)) (output_of c.args.writer.now (g.K.Sink.taken c.args.out.now)) r) (sym p.1) (read_fails s state c.args.course.now c.args.world.now left stands (output_of c.args.writer.now (g.K.Sink.taken c.args.out.now)) (looks.4 s state c.args.world.now stands).1))

pub returns-in_err-line-clause-counts : goal.returns-in_err-line-clause-counts
returns-in_err-line-clause-counts g c =
    let p = err_from_is_err_and c.from_residual.result c.from_residual.ensures.1 in
    let same : p.0 ≡ c.in_err-line.field-0.0 = p.2 in
    subst (λ r. CountsStep r (g.S.Source.faults c.args.trace.now) (g.S.Source.faults c.look.new.trace) (g.K.Sink.faults c.args.out.now) (g.K.Sink.faults c.args.out.now)) (sym p.1)
    (subst (λ (f : Failure). CountsStep {V = Option Halt} (Err f) (g.S.Source.faults c.args.trace.now) (g.S.Source.faults c.look.new.trace) (g.K.Sink.faults c.args.out.now) (g.K.Sink.faults c.args.out.now)) (sym same)
    (look_failed c.in_err-line.field-0.0 (g.S.Source.faults c.args.trace.now) (g.S.Source.faults c.look.new.trace) (g.K.Sink.faults c.args.out.now) c.in_err-line.ensures.counts))

pub returns-in_err-line-clause-falls : goal.returns-in_err-line-clause-falls
returns-in_err-line-clause-falls g c =
    let p = err_from_is_err_and c.from_residual.result c.from_residual.ensures.1 in
    subst (λ r. FallsTo (rank c.args.course.now c.args.world.now) r (rank c.look.new.self c.args.world.now)) (sym p.1) tt

pub returns-in_err-line-clause-keeps : goal.returns-in_err-line-clause-keeps
returns-in_err-line-clause-keeps g c = keeps_same c.args.world.now

pub go_on-requires-clause-stands : goal.go_on-requires-clause-stands
go_on-requires-clause-stands g c =
    let p = c.requires.stands in
    let stands = forget p.0 p.1 c.args.course.now c.args.world.now p.2 (to_between p.0 p.1 c.args.course.now c.args.world.now p.2 c.requires.between p.3) in
    let looks = c.in_ok-line.ensures.looks Unasked tt in
    let before : looks.0 ≡ Unasked = unasked looks.0 looks.2 in
    let sees = rw c.in-Comes.is at (looks.4 p.0 p.1 c.args.world.now (subst (λ (r : Rest). StandsBetween p.0 p.1 c.args.course.now c.args.world.now r) (sym before) stands)) in (
      p.0,
      p.1,
      Unasked,
      at_point p.0 p.1 Unasked c.look.new.self c.args.world.now _ sees (ap (λ (k : Kept). k.under) c.look.ensures.rest ∙ c.requires.between) (λ e. c.if-live-eq0.false (c.live.ensures ∙ ap (λ (l : List Thread). length l) e)),
    )

pub returns-in-Refused-clause-ends : goal.returns-in-Refused-clause-ends
returns-in-Refused-clause-ends g c = λ after knows.
    let looks = c.in_ok-line.ensures.looks after knows in
    let left = looks.0 in (
      left,
      looks.1,
      looks.2,
      looks.3,
      λ s state stands. refused_halts s state c.args.course.now c.args.world.now left stands c.look.new.self _ (output_of c.args.writer.now (g.K.Sink.taken c.args.out.now)) (ap (λ (k : Kept). k.graph) c.look.ensures.rest)
          (λ e. c.if-live-eq0.false (c.live.ensures ∙ ap (λ (l : List Thread). length l) e)) (rw c.in-Refused.is at (looks.4 s state c.args.world.now stands)),
    )

pub returns-in-Refused-clause-counts : goal.returns-in-Refused-clause-counts
returns-in-Refused-clause-counts g c = (c.in_ok-line.ensures.counts, refl)

pub returns-in-Refused-clause-keeps : goal.returns-in-Refused-clause-keeps
returns-in-Refused-clause-keeps g c = keeps_same c.args.world.now

pub returns-in-Comes-clause-ends : goal.returns-in-Comes-clause-ends
returns-in-Comes-clause-ends g c = λ after knows.
    let looks = c.in_ok-line.ensures.looks after knows in
    let left = looks.0 in (
      left,
      looks.1,
      looks.2,
      looks.3,
      λ s state stands.
          let sees = rw c.in-Comes.is at (looks.4 s state c.args.world.now stands) in
          let at = at_point s state after c.look.new.self c.args.world.now _ sees (ap (λ (k : Kept). k.under) c.look.ensures.rest ∙ c.requires.between) (λ e. c.if-live-eq0.false (c.live.ensures ∙ ap (λ (l : List Thread). length l) e)) in
          from_before s state left after c.go_on.new.course c.go_on.new.world after (output_of c.args.writer.now (g.K.Sink.taken c.args.out.now)) (output_of c.go_on.new.writer (g.K.Sink.taken c.go_on.new.out)) c.go_on.result looks.2 (c.go_on.ensures.ends s state after at),
    )

pub returns-in-Comes-clause-counts : goal.returns-in-Comes-clause-counts
returns-in-Comes-clause-counts g c =
    part_counts c.go_on.result (g.S.Source.faults c.args.trace.now) (g.S.Source.faults c.look.new.trace) (g.K.Sink.faults c.args.out.now) (g.K.Sink.faults c.go_on.new.out) c.in_ok-line.ensures.counts c.go_on.ensures.counts

pub returns-in-Comes-clause-falls : goal.returns-in-Comes-clause-falls
returns-in-Comes-clause-falls g c =
    let near = rw c.in-Comes.is at c.in_ok-line.ensures.nears in
    falls_from (rank c.args.course.now c.args.world.now) (rank c.look.new.self c.args.world.now) (rank c.go_on.new.course c.go_on.new.world) c.go_on.result
    (look_falls c.args.course.now c.look.new.self c.args.world.now c.in-Comes.event (ap (λ (k : Kept). k.under) c.look.ensures.rest) near) c.go_on.ensures.falls

pub returns-in-Comes-clause-keeps : goal.returns-in-Comes-clause-keeps
returns-in-Comes-clause-keeps g c = c.go_on.ensures.keeps
