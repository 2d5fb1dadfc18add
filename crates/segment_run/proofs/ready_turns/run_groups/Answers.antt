use Rattle.std.proofs.Common.{refl}
use Rattle.segment_run.proofs.ReadyRuns.{unchanged}
use Rattle.segment_run.proofs.ready_turns.run_groups.Goals as goal

pub turns-requires-clause-run : goal.turns-requires-clause-run
turns-requires-clause-run c = (c.requires.0, c.loop-stand.invariant c.requires.0 c.requires.1)

pub loop-stand-preserved : goal.loop-stand-preserved
loop-stand-preserved c = λ run is. c.in-Some.ensures.went run (c.loop-stand.invariant run is)

pub returns-in-None : goal.returns-in-None
returns-in-None c = λ run is.
    unchanged run c.args.ready.now c.loop-stand.areas c.turns.new.areas c.loop-stand.file c.turns.new.file c.loop-stand.stand.at c.loop-stand.stand.left
    (c.in-None.ensures.areas refl) (c.in-None.ensures.file refl) (c.loop-stand.invariant run is)
