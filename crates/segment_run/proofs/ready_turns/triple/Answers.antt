use Rattle.segment_run.proofs.Common.{ℕ, ◌≡◌, ◌+◌, ◌-◌, refl, sym, subst, arith, IsKindAt}
use Rattle.segment_run.proofs.ReadyRuns.{standing, unchanged}
use Rattle.segment_run.proofs.ready_turns.triple.Goals as goal

pub turn_in-requires-clause-run : goal.turn_in-requires-clause-run
turn_in-requires-clause-run c = (c.requires.run.0, c.args.stand.left, omega (arith, c.requires.fuel), c.requires.run.1)

pub operation_at-begun-requires-clause-there : goal.operation_at-begun-requires-clause-there
operation_at-begun-requires-clause-there c =
    let run = c.requires.run.0 in
    let is = c.in-Some.ensures.went run c.args.stand.left (omega (arith, c.requires.fuel)) c.requires.run.1 in
    let s = standing run c.args.ready.now c.turn_in.new.areas c.turn_in.new.file c.in-Some.next (c.args.stand.left - 1) is in
    (run.code, s.0, is.are_ready, s.1)

pub operation_at-begun-requires-clause-place : goal.operation_at-begun-requires-clause-place
operation_at-begun-requires-clause-place c =
    (c.in-Some.ensures.went c.requires.run.0 c.args.stand.left (omega (arith, c.requires.fuel)) c.requires.run.1).way.form.core.pc

pub pair-requires-clause-run : goal.pair-requires-clause-run
pair-requires-clause-run c =
    (c.requires.run.0, c.in-Some.ensures.went c.requires.run.0 c.args.stand.left (omega (arith, c.requires.fuel)) c.requires.run.1)

pub pair-requires-clause-first : goal.pair-requires-clause-first
pair-requires-clause-first c =
    let here = subst (λ (at : ℕ). IsKindAt c.args.ready.now at c.args.behind) (sym (c.in-Some.ensures.on c.requires.first_on)) c.requires.behind in
    here c.operation_at-begun.result.now c.operation_at-begun.ensures.there

pub pair-requires-clause-behind : goal.pair-requires-clause-behind
pair-requires-clause-behind c =
    let on = c.in-Some.ensures.on c.requires.first_on in
    let place : c.args.stand.at + 2 ≡ c.in-Some.next + 1 = omega (arith, on) in
    subst (λ (at : ℕ). IsKindAt c.args.ready.now at c.args.last) place c.requires.last

pub returns-in-Some-pair-clause-went : goal.returns-in-Some-pair-clause-went
returns-in-Some-pair-clause-went c = λ run is.
    c.in-Some-pair.ensures.went run (c.in-Some.ensures.went run c.args.stand.left (omega (arith, c.requires.fuel)) is)

pub returns-in-None-pair-clause-went : goal.returns-in-None-pair-clause-went
returns-in-None-pair-clause-went c = λ run is.
    let first = c.in-Some.ensures.went run c.args.stand.left (omega (arith, c.requires.fuel)) is in
    unchanged run c.args.ready.now c.turn_in.new.areas c.pair.new.areas c.turn_in.new.file c.pair.new.file c.in-Some.next (c.args.stand.left - 1)
    (c.in-None-pair.ensures.areas refl) (c.in-None-pair.ensures.file refl) first
