use Rattle.schedule_reading.proofs.Common.{◌≡◌, ◌-◌, Option, Some, None, Result, Ok, refl, sym, ap, ◌∙◌, subst, arith, err_from_is_err_and, Happening, Failure, Kept}
use Rattle.schedule_reading.specs.Coming.{Advances, GoesOn, HasHappened}
use Rattle.schedule_reading.proofs.Running.{first_on, gone, gone_on, happened_on, keeps_on, may_on, number_on, over, over_first, runs_somehow}
use Rattle.schedule_reading.proofs.reading.Reading.happen.Goals as goal

-- what isn't something is nothing
none_if : {A : Type 0} (o : Option A) → ((a : A) → o ≡ Some a → ⊥) → o ≡ None
none_if (Some a) never = absurd (never a refl)
none_if None never = refl

pub advance-requires-clause-runs : goal.advance-requires-clause-runs
advance-requires-clause-runs g c = runs_somehow c.args.self.now.core c.args.under.now c.args.left.now c.args.crowds c.loop-left.self.core c.loop-left.under c.loop-left.left c.loop-left.invariant.runs c.loop-left.invariant.keeps c.requires

pub returns-in_err-happening-clause-happens : goal.returns-in_err-happening-clause-happens
returns-in_err-happening-clause-happens g c = λ given state here may.
    let next = gone c.args.self.now.core c.args.under.now c.args.left.now c.args.crowds c.loop-left.self.core c.loop-left.under c.loop-left.left c.loop-left.invariant.runs c.loop-left.invariant.keeps given state here may in
    let memory : c.in_err-happening.field-0.0 ≡ Failure.Memory = c.in_err-happening.ensures.advances given state next.after (may_on c.args.self.now.core c.args.under.now c.args.left.now c.args.crowds c.loop-left.self.core c.loop-left.under c.loop-left.left c.loop-left.invariant.runs c.loop-left.invariant.keeps given state here may) in
    let p = err_from_is_err_and c.from_residual.result c.from_residual.ensures.1 in
    subst (λ (r : Result Happening Failure). HasHappened given state here c.args.left.now c.advance.new.left c.advance.new.self.core c.advance.new.under r) (sym p.1) (p.2 ∙ memory)

pub returns-in_err-happening-clause-keeps : goal.returns-in_err-happening-clause-keeps
returns-in_err-happening-clause-keeps g c =
    keeps_on c.args.self.now.core c.loop-left.self.core c.advance.new.self.core c.args.under.now c.loop-left.under c.advance.new.under c.args.left.now c.loop-left.left c.advance.new.left c.loop-left.invariant.keeps c.advance.ensures.keeps

pub returns-in-Some-clause-happens : goal.returns-in-Some-clause-happens
returns-in-Some-clause-happens g c = λ given state here may.
    let next = gone c.args.self.now.core c.args.under.now c.args.left.now c.args.crowds c.loop-left.self.core c.loop-left.under c.loop-left.left c.loop-left.invariant.runs c.loop-left.invariant.keeps given state here may in
    let came : Advances given state next.after c.args.crowds c.loop-left.left c.advance.new.left c.advance.new.self.core c.advance.new.under (Ok (Some c.in-Some.happening)) =
    subst (λ (o : Option Happening). Advances given state next.after c.args.crowds c.loop-left.left c.advance.new.left c.advance.new.self.core c.advance.new.under (Ok o)) c.in-Some.is
    (c.in_ok-happening.ensures.advances given state next.after (may_on c.args.self.now.core c.args.under.now c.args.left.now c.args.crowds c.loop-left.self.core c.loop-left.under c.loop-left.left c.loop-left.invariant.runs c.loop-left.invariant.keeps given state here may)) in
    happened_on c.args.self.now.core c.args.under.now c.args.left.now c.args.crowds c.loop-left.self.core c.loop-left.under c.loop-left.left c.loop-left.invariant.runs c.loop-left.invariant.keeps given state here may c.advance.new.self.core c.advance.new.under c.advance.new.left c.advance.ensures.keeps.fewer
    (number_on c.args.self.now.core c.args.under.now c.args.left.now c.args.crowds c.loop-left.self.core c.loop-left.under c.loop-left.left c.loop-left.invariant.runs c.loop-left.invariant.keeps given state here may) c.in-Some.happening came.0

pub returns-in-Some-clause-crowds : goal.returns-in-Some-clause-crowds
returns-in-Some-clause-crowds g c = λ given state here may.
    let next = gone c.args.self.now.core c.args.under.now c.args.left.now c.args.crowds c.loop-left.self.core c.loop-left.under c.loop-left.left c.loop-left.invariant.runs c.loop-left.invariant.keeps given state here may in
    let came : Advances given state next.after c.args.crowds c.loop-left.left c.advance.new.left c.advance.new.self.core c.advance.new.under (Ok (Some c.in-Some.happening)) =
    subst (λ (o : Option Happening). Advances given state next.after c.args.crowds c.loop-left.left c.advance.new.left c.advance.new.self.core c.advance.new.under (Ok o)) c.in-Some.is
    (c.in_ok-happening.ensures.advances given state next.after (may_on c.args.self.now.core c.args.under.now c.args.left.now c.args.crowds c.loop-left.self.core c.loop-left.under c.loop-left.left c.loop-left.invariant.runs c.loop-left.invariant.keeps given state here may)) in
    first_on c.args.self.now.core c.args.under.now c.args.left.now c.args.crowds c.loop-left.self.core c.loop-left.under c.loop-left.left c.loop-left.invariant.runs c.loop-left.invariant.keeps given state here may c.advance.new.self.core c.advance.new.under c.advance.new.left c.advance.ensures.keeps.fewer c.in-Some.happening came.1

pub returns-in-Some-clause-keeps : goal.returns-in-Some-clause-keeps
returns-in-Some-clause-keeps g c =
    keeps_on c.args.self.now.core c.loop-left.self.core c.advance.new.self.core c.args.under.now c.loop-left.under c.advance.new.under c.args.left.now c.loop-left.left c.advance.new.left c.loop-left.invariant.keeps c.advance.ensures.keeps

pub loop-left-smaller : goal.loop-left-smaller
loop-left-smaller g c =
    let may = c.requires in
    let next = gone c.args.self.now.core c.args.under.now c.args.left.now c.args.crowds c.loop-left.self.core c.loop-left.under c.loop-left.left c.loop-left.invariant.runs c.loop-left.invariant.keeps may.0 may.1 may.2 may.3 in
    let came : GoesOn may.0 may.1 next.after c.args.crowds (c.loop-left.left - c.advance.new.left) c.advance.new.self.core c.advance.new.under =
    subst (λ (o : Option Happening). Advances may.0 may.1 next.after c.args.crowds c.loop-left.left c.advance.new.left c.advance.new.self.core c.advance.new.under (Ok o)) (none_if c.in_ok-happening.field-0 c.in_default.not-Some)
    (c.in_ok-happening.ensures.advances may.0 may.1 next.after (may_on c.args.self.now.core c.args.under.now c.args.left.now c.args.crowds c.loop-left.self.core c.loop-left.under c.loop-left.left c.loop-left.invariant.runs c.loop-left.invariant.keeps may.0 may.1 may.2 may.3)) in
    let some = came.some in
    omega (arith, some)

pub loop-left-preserved : goal.loop-left-preserved
loop-left-preserved g c = record {
  runs = λ given state here may.
      let next = gone c.args.self.now.core c.args.under.now c.args.left.now c.args.crowds c.loop-left.self.core c.loop-left.under c.loop-left.left c.loop-left.invariant.runs c.loop-left.invariant.keeps given state here may in
      let came : GoesOn given state next.after c.args.crowds (c.loop-left.left - c.advance.new.left) c.advance.new.self.core c.advance.new.under =
      subst (λ (o : Option Happening). Advances given state next.after c.args.crowds c.loop-left.left c.advance.new.left c.advance.new.self.core c.advance.new.under (Ok o)) (none_if c.in_ok-happening.field-0 c.in_default.not-Some)
      (c.in_ok-happening.ensures.advances given state next.after (may_on c.args.self.now.core c.args.under.now c.args.left.now c.args.crowds c.loop-left.self.core c.loop-left.under c.loop-left.left c.loop-left.invariant.runs c.loop-left.invariant.keeps given state here may)) in
      gone_on c.args.self.now.core c.args.under.now c.args.left.now c.args.crowds c.loop-left.self.core c.loop-left.under c.loop-left.left c.loop-left.invariant.runs c.loop-left.invariant.keeps given state here may c.advance.new.self.core c.advance.new.under c.advance.new.left c.advance.ensures.keeps.fewer came;
  keeps = keeps_on c.args.self.now.core c.loop-left.self.core c.advance.new.self.core c.args.under.now c.loop-left.under c.advance.new.under c.args.left.now c.loop-left.left c.advance.new.left c.loop-left.invariant.keeps c.advance.ensures.keeps;
  rest = c.advance.ensures.rest ∙ ap (λ (k : Kept). record k { core = c.advance.new.self.core }) c.loop-left.invariant.rest;
}

pub returns-clause-happens : goal.returns-clause-happens
returns-clause-happens g c = λ given state here may.
    let none : c.loop-left.left ≡ 0 = omega arith in
    over c.args.self.now.core c.args.under.now c.args.left.now c.args.crowds c.loop-left.self.core c.loop-left.under c.loop-left.left c.loop-left.invariant.runs c.loop-left.invariant.keeps given state here may none

pub returns-clause-crowds : goal.returns-clause-crowds
returns-clause-crowds g c = λ given state here may.
    over_first c.args.self.now.core c.args.under.now c.args.left.now c.args.crowds c.loop-left.self.core c.loop-left.under c.loop-left.left c.loop-left.invariant.runs c.loop-left.invariant.keeps given state here may
