use Rattle.std.proofs.Common.{refl}
use Rattle.segment_run.proofs.ReadyRuns.{standing, unchanged}
use Rattle.segment_run.proofs.ready_turns.run_singly.Goals as goal

pub operation_at-op-requires-clause-there : goal.operation_at-op-requires-clause-there
operation_at-op-requires-clause-there c =
    let run = c.requires.0 in
    let is = c.loop-stand.invariant run c.requires.1 in
    let s = standing run c.args.ready.now c.loop-stand.areas c.loop-stand.file c.loop-stand.stand.at c.loop-stand.stand.left is in
    (run.code, s.0, is.are_ready, s.1)

pub operation_at-op-requires-clause-place : goal.operation_at-op-requires-clause-place
operation_at-op-requires-clause-place c = (c.loop-stand.invariant c.requires.0 c.requires.1).way.form.core.pc

pub turn_in-requires-clause-run : goal.turn_in-requires-clause-run
turn_in-requires-clause-run c =
    (c.requires.0, c.loop-stand.stand.left, c.loop-stand-test.true, c.loop-stand.invariant c.requires.0 c.requires.1)

pub loop-stand-preserved : goal.loop-stand-preserved
loop-stand-preserved c = λ run is. c.in-Some.ensures.went run c.loop-stand.stand.left c.loop-stand-test.true (c.loop-stand.invariant run is)

pub returns-in-None : goal.returns-in-None
returns-in-None c = λ run is.
    unchanged run c.args.ready.now c.loop-stand.areas c.turn_in.new.areas c.loop-stand.file c.turn_in.new.file c.loop-stand.stand.at c.loop-stand.stand.left
    (c.in-None.ensures.areas refl) (c.in-None.ensures.file refl) (c.loop-stand.invariant run is)
