use Rattle.std.proofs.Common.{arith}
use Rattle.segment_run.proofs.ReadyTurns.{stands}
use Rattle.segment_run.proofs.ready_turns.index_at.Goals as goal

pub returns : goal.returns
returns c =
    let s = stands c.requires.0 c.args.pc c.requires.1 c.requires.2 in
    omega (arith, s.aligned, s.low)
