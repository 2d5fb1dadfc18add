use Rattle.schedule_audit.proofs.Common.{◌≡◌, ◌∙◌, ◌+◌, ◌-◌, Result, Ok, List, ℕ, Option, ap, arith, drop, length, refl, subst, sym, take, false≢true, IsJudged, Kept, Failure, Ruling}
use Rattle.std.proofs.lemmas.List.{take_rest}
use Rattle.schedule_reading.specs.declared.reading.End.TheVariants as end
use Rattle.schedule_reading.specs.declared.rulings.Ruling.TheVariants as ruling
use Rattle.schedule_audit.proofs.Judged.{empty_is, empty_not, end_is, fewer_left, lawful_end, line_late, line_on, line_refused, still_stands, unlawful_end}
use Rattle.schedule_audit.proofs.audits.lines.Goals as goal
use Rattle.schedule_audit.proofs.audits.lines.Goals.{then-is_empty+then-matches, else-is_empty, else-is_empty-via-else-is_empty, else-is_empty-via-then-is_empty+else-matches, in-Stopped, in_default-matches}

pub loop-end-init : goal.loop-end-init
loop-end-init g c = record {
  stands = c.requires;
  read = λ given begun. begun;
  counts = refl;
  few = omega arith;
}

pub loop-end-preserved : goal.loop-end-preserved
loop-end-preserved g c =
    let rest : List ℕ = c.loop-end.rest.now in
    let at = c.in-Some.end in
    let found = sym c.line_end.ensures ∙ c.in-Some.is in
    let more : List ℕ = take (length rest - (at + 1)) (drop (at + 1) rest) in
    let same : more ≡ drop (at + 1) rest = take_rest rest (at + 1) in
    let e : ◌≡◌ {A = Result Ruling Failure} (Ok c.in_ok-take_line.field-0) (Ok ruling.Allowed) = ap (λ (x : Ruling). Ok x) c.in-Allowed.is in
    record {
      stands = still_stands c.loop-end.reading (g.S.Source.left c.loop-end.trace) c.take_line.new.reading (g.S.Source.left c.take_line.new.trace) (take at rest) (Ok c.in_ok-take_line.field-0) c.in_ok-take_line.ensures.rules e c.loop-end.invariant.stands;
      read = λ given begun.
          line_on given (g.S.Source.left c.args.trace.now) c.args.log.now rest c.loop-end.line c.loop-end.reading (g.S.Source.left c.loop-end.trace) (c.loop-end.invariant.read given begun) at found c.take_line.new.reading (g.S.Source.left c.take_line.new.trace) (take at rest) refl
          (Ok c.in_ok-take_line.field-0) c.in_ok-take_line.ensures.rules e more same;
      counts = c.in_ok-take_line.ensures.counts ∙ c.loop-end.invariant.counts;
      few = fewer_left rest more at c.loop-end.line (length c.args.log.now + 1) found same c.loop-end.invariant.few;
    }

pub returns-in-Refused-clause-judged : goal.returns-in-Refused-clause-judged
returns-in-Refused-clause-judged g c = λ given begun.
    let rest : List ℕ = c.loop-end.rest.now in
    let e : ◌≡◌ {A = Result Ruling Failure} (Ok c.in_ok-take_line.field-0) (Ok ruling.Refused) = ap (λ (x : Ruling). Ok x) c.in-Refused.is in
    line_refused given (g.S.Source.left c.args.trace.now) c.args.log.now rest c.loop-end.line c.loop-end.reading (g.S.Source.left c.loop-end.trace) (c.loop-end.invariant.read given begun) c.in-Some.end (sym c.line_end.ensures ∙ c.in-Some.is) c.take_line.new.reading
    (g.S.Source.left c.take_line.new.trace) (take c.in-Some.end rest) refl (Ok c.in_ok-take_line.field-0) c.in_ok-take_line.ensures.rules e

pub returns-in-OutOfSteps-clause-judged : goal.returns-in-OutOfSteps-clause-judged
returns-in-OutOfSteps-clause-judged g c = λ given begun.
    let rest : List ℕ = c.loop-end.rest.now in
    let e : ◌≡◌ {A = Result Ruling Failure} (Ok c.in_ok-take_line.field-0) (Ok ruling.OutOfSteps) = ap (λ (x : Ruling). Ok x) c.in-OutOfSteps.is in
    line_late given (g.S.Source.left c.args.trace.now) c.args.log.now rest c.loop-end.line c.loop-end.reading (g.S.Source.left c.loop-end.trace) (c.loop-end.invariant.read given begun) c.in-Some.end (sym c.line_end.ensures ∙ c.in-Some.is) c.take_line.new.reading
    (g.S.Source.left c.take_line.new.trace) (take c.in-Some.end rest) refl (Ok c.in_ok-take_line.field-0) c.in_ok-take_line.ensures.rules e

pub returns-clause-judged : goal.returns-clause-judged
returns-clause-judged g c = λ given begun.
    let told : Option (List ℕ) = g.S.Source.left c.args.trace.now in
    let now : Option (List ℕ) = g.S.Source.left c.loop-end.trace in
    let rest : List ℕ = c.loop-end.rest.now in
    let read = c.loop-end.invariant.read given begun in
    elim c.if-is_empty.branch [
      | then-is_empty+then-matches w ↦
          let stopped : c.loop-end.reading.end ≡ end.Stopped = elim w.match-matches.branch [
            | in-Stopped x ↦ end_is _ c.loop-end.reading c.reading.view_is end.Stopped x.in-Stopped.is
            | in_default-matches x ↦ absurd (false≢true (sym x.matches-is ∙ w.if-matches.true))
          ] in
          subst (IsJudged given told c.args.log.now) (sym w.result-is)
          (lawful_end given told c.args.log.now rest c.loop-end.line c.loop-end.reading now read (empty_is rest c.is_empty.result c.is_empty.ensures w.if-is_empty.true) stopped)
      | else-is_empty w ↦
          subst (IsJudged given told c.args.log.now) (sym w.result-is)
          (unlawful_end given told c.args.log.now rest c.loop-end.line c.loop-end.reading now read (sym c.line_end.ensures ∙ c.in_default.is)
          (λ none stopped. elim w.else-is_empty.branch [
            | else-is_empty-via-then-is_empty+else-matches x ↦ elim x.match-matches.branch [
              | in-Stopped y ↦ false≢true (sym x.if-matches.false ∙ y.matches-is)
              | in_default-matches y ↦ y.in_default-matches.not-Stopped (ap (λ (k : Kept). k.end) c.reading.view_is ∙ stopped)
            ]
            | else-is_empty-via-else-is_empty x ↦ empty_not rest c.is_empty.result c.is_empty.ensures x.if-is_empty.false none
          ]))
    ]
