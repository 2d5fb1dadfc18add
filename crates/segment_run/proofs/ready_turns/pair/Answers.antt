use Rattle.segment_run.proofs.Common.{ℕ, ◌-◌, ◌<◌, refl, sym, subst, arith, IsKindAt}
use Rattle.segment_run.proofs.ReadyRuns.{unchanged}
use Rattle.segment_run.proofs.ready_turns.pair.Goals as goal

pub turn_in-requires-clause-run : goal.turn_in-requires-clause-run
turn_in-requires-clause-run c = (c.requires.run.0, c.args.stand.left, omega (arith, c.requires.fuel), c.requires.run.1)

pub turn_at-requires-clause-run : goal.turn_at-requires-clause-run
turn_at-requires-clause-run c =
    let some : 0 < c.args.stand.left = omega (arith, c.requires.fuel) in
    (c.requires.run.0, c.args.stand.left - 1, omega (arith, c.requires.fuel), c.in-Some.ensures.went c.requires.run.0 c.args.stand.left some c.requires.run.1)

pub turn_at-requires-clause-kind : goal.turn_at-requires-clause-kind
turn_at-requires-clause-kind c =
    subst (λ (at : ℕ). IsKindAt c.args.ready.now at c.args.behind) (sym (c.in-Some.ensures.on c.requires.on)) c.requires.behind

pub returns-in-Some-turn_at-clause-went : goal.returns-in-Some-turn_at-clause-went
returns-in-Some-turn_at-clause-went c = λ run is.
    let first = c.in-Some.ensures.went run c.args.stand.left (omega (arith, c.requires.fuel)) is in
    c.in-Some-turn_at.ensures.went run (c.args.stand.left - 1) (omega (arith, c.requires.fuel)) first

pub returns-in-None-turn_at-clause-went : goal.returns-in-None-turn_at-clause-went
returns-in-None-turn_at-clause-went c = λ run is.
    let first = c.in-Some.ensures.went run c.args.stand.left (omega (arith, c.requires.fuel)) is in
    unchanged run c.args.ready.now c.turn_in.new.areas c.turn_at.new.areas c.turn_in.new.file c.turn_at.new.file c.in-Some.next (c.args.stand.left - 1)
    (c.in-None-turn_at.ensures.areas refl) (c.in-None-turn_at.ensures.file refl) first
