use Rattle.segment_run.proofs.Common.{ℕ, ◌-◌, ◌<◌, Option, IfSome, IsNone, refl, sym, subst, arith, checked_of, code_of, thread_of, IsAtEcall, IsUnderWay, KeepsCounts}
use Rattle.segment_run.specs.declared.segments.Segment.TheVariants as answer
use Rattle.segment_run.proofs.UnderWay.{safe_now, way_then, stays_safe, goes_on, counts_ended, ends_here}
use Rattle.segment_run.proofs.segments.run_turns.Goals as goal
use Rattle.segment_run.proofs.segments.run_turns.Goals.{After-run_to_call-pause, In-Some}

pub run_to_call-pause-requires-clause-safe : goal.run_to_call-pause-requires-clause-safe
run_to_call-pause-requires-clause-safe c = stays_safe _ _ _ _ c.args.fuel.now.left c.loop-fuel.fuel.left c.requires.safe c.loop-fuel.invariant

-- the thread is under way at the pause
way : (c : After-run_to_call-pause) →
    IsUnderWay (checked_of c.args.accepted.now) (code_of c.args.accepted.now) (thread_of c.args.areas.now c.args.thread.now) c.args.fuel.now.left
    (thread_of c.run_to_call-pause.new.areas (record c.loop-fuel.thread { regs = c.run_to_call-pause.result.regs })) c.run_to_call-pause.result.left
way c = way_then _ _ _ _ _ _ _ _ c.loop-fuel.invariant c.run_to_call-pause.ensures.way

-- with fuel left for a call
fuel : (c : In-Some) → 0 < c.run_to_call-pause.result.left
fuel c =
    let there = thread_of c.run_to_call-pause.new.areas (record c.loop-fuel.thread { regs = c.run_to_call-pause.result.regs }) in
    let code = code_of c.args.accepted.now in
    let left = c.run_to_call-pause.result.left in
    let at = subst (λ (found : Option ℕ). IfSome found (IsAtEcall code there left)) c.in-Some.is c.run_to_call-pause.ensures.calls in
    at.fuel

pub call-requires-clause-safe : goal.call-requires-clause-safe
call-requires-clause-safe c = safe_now _ _ _ _ _ _ c.requires.safe (way (goal.at.call-requires-clause-safe c).After-run_to_call-pause)

pub loop-fuel-preserved : goal.loop-fuel-preserved
loop-fuel-preserved c =
    let at = goal.at.loop-fuel-preserved c in
    goes_on _ _ _ _ _ _ _ (c.run_to_call-pause.result.left - 1) c.requires.formed c.requires.safe (way at.After-run_to_call-pause) c.in-Goes.ensures
    (omega (arith, fuel at.In-Some))

pub returns-in-Ends-clause-machine : goal.returns-in-Ends-clause-machine
returns-in-Ends-clause-machine c =
    let at = goal.at.returns-in-Ends-clause-machine c in
    ends_here _ _ _ _ _ _ _ _ answer.Ends c.requires.safe (way at.After-run_to_call-pause)
    (c.in-Ends.ensures.0, c.in-Ends.ensures.1, omega (arith, fuel at.In-Some))

pub returns-in-Ends-clause-counts : goal.returns-in-Ends-clause-counts
returns-in-Ends-clause-counts c =
    let under = way (goal.at.returns-in-Ends-clause-counts c).After-run_to_call-pause in
    let safe = safe_now _ _ _ _ _ _ c.requires.safe under in
    counts_ended _ _ _ _ _ c.requires.formed under.counts under.form safe.good c.in-Ends.ensures.0 c.in-Ends.ensures.1

pub returns-in-Blocks-clause-machine : goal.returns-in-Blocks-clause-machine
returns-in-Blocks-clause-machine c =
    let at = goal.at.returns-in-Blocks-clause-machine c in
    ends_here _ _ _ _ _ _ _ _ (answer.Blocks c.in-Blocks.block) c.requires.safe (way at.After-run_to_call-pause)
    (fuel at.In-Some, c.in-Blocks.ensures.0, c.in-Blocks.ensures.1, refl)

pub returns-in-Blocks-clause-counts : goal.returns-in-Blocks-clause-counts
returns-in-Blocks-clause-counts c =
    subst (KeepsCounts _ _) (sym c.in-Blocks.ensures.1) (way (goal.at.returns-in-Blocks-clause-counts c).After-run_to_call-pause).counts

pub returns-in-Asks-clause-machine : goal.returns-in-Asks-clause-machine
returns-in-Asks-clause-machine c =
    let at = goal.at.returns-in-Asks-clause-machine c in
    ends_here _ _ _ _ _ _ _ _ (answer.Asks c.in-Asks.ask) c.requires.safe (way at.After-run_to_call-pause)
    (fuel at.In-Some, c.in-Asks.ensures.0, c.in-Asks.ensures.1, refl)

pub returns-in-Asks-clause-counts : goal.returns-in-Asks-clause-counts
returns-in-Asks-clause-counts c =
    subst (KeepsCounts _ _) (sym c.in-Asks.ensures.1) (way (goal.at.returns-in-Asks-clause-counts c).After-run_to_call-pause).counts

pub returns-in-Traps-clause-machine : goal.returns-in-Traps-clause-machine
returns-in-Traps-clause-machine c =
    let at = goal.at.returns-in-Traps-clause-machine c in
    ends_here _ _ _ _ _ _ _ _ (answer.Traps c.in-Traps.kind) c.requires.safe (way at.After-run_to_call-pause)
    (fuel at.In-Some, c.in-Traps.ensures.0, c.in-Traps.ensures.1, refl)

pub returns-in-Traps-clause-counts : goal.returns-in-Traps-clause-counts
returns-in-Traps-clause-counts c =
    subst (KeepsCounts _ _) (sym c.in-Traps.ensures.1) (way (goal.at.returns-in-Traps-clause-counts c).After-run_to_call-pause).counts

pub returns-in-NoRoom-clause-machine : goal.returns-in-NoRoom-clause-machine
returns-in-NoRoom-clause-machine c =
    let at = goal.at.returns-in-NoRoom-clause-machine c in
    ends_here _ _ _ _ _ _ _ _ answer.NoChunk c.requires.safe (way at.After-run_to_call-pause)
    (fuel at.In-Some, c.in-NoRoom.ensures.0, c.in-NoRoom.ensures.1, c.in-NoRoom.ensures.2, refl)

pub returns-in-NoRoom-clause-counts : goal.returns-in-NoRoom-clause-counts
returns-in-NoRoom-clause-counts c =
    subst (KeepsCounts _ _) (sym c.in-NoRoom.ensures.2) (way (goal.at.returns-in-NoRoom-clause-counts c).After-run_to_call-pause).counts

pub returns-in_default-clause-machine : goal.returns-in_default-clause-machine
returns-in_default-clause-machine c =
    let spent = c.run_to_call-pause.ensures.spent (subst IsNone (sym c.in_default.is) refl) in
    ends_here _ _ _ _ _ _ _ _ answer.OutOfFuel c.requires.safe (way (goal.at.returns-in_default-clause-machine c).After-run_to_call-pause) (spent, refl, spent)

pub returns-in_default-clause-counts : goal.returns-in_default-clause-counts
returns-in_default-clause-counts c = (way (goal.at.returns-in_default-clause-counts c).After-run_to_call-pause).counts

pub returns-clause-machine : goal.returns-clause-machine
returns-clause-machine c =
    let spent = c.loop-fuel-test.false in
    ends_here _ _ _ _ _ _ _ _ answer.OutOfFuel c.requires.safe c.loop-fuel.invariant (omega (arith, spent), refl, omega (arith, spent))
