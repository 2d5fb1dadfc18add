use Rattle.std.proofs.Common.{sym, subst}
use Rattle.chunk_pool.specs.Pool.{Pool}
use Rattle.segment_run.specs.Contexts.{checked_of, core_of}
use Rattle.segment_run.specs.Passing.{RestsAround}
use Rattle.machine_rows.proofs.Standing.{around, where_asked, where_blocked}
use Rattle.machine_rows.proofs.runs.run_on.Goals as goal

pub pass-requires-clause-stands : goal.pass-requires-clause-stands
pass-requires-clause-stands c = let at = where_asked _ _ _ _ _ _ _ _ c.in-Asks.is c.run_segment-segment.ensures.machine in (at.op, at.rests)

pub pass-requires-clause-fuel : goal.pass-requires-clause-fuel
pass-requires-clause-fuel c = (where_asked _ _ _ _ _ _ _ _ c.in-Asks.is c.run_segment-segment.ensures.machine).fuel

pub walk-requires : goal.walk-requires
walk-requires c = let at = where_blocked _ _ _ _ _ _ _ _ c.in-Blocks.is c.run_segment-segment.ensures.machine in
    subst (λ (p : Pool). RestsAround (checked_of c.args.accepted.now) p (core_of p c.run_segment-segment.new.context)) (sym c.pool.ensures) (around _ _ at.op at.rests)

pub pass-requires-in-Blocks-clause-stands : goal.pass-requires-in-Blocks-clause-stands
pass-requires-in-Blocks-clause-stands c = let at = where_blocked _ _ _ _ _ _ _ _ c.in-Blocks.is c.run_segment-segment.ensures.machine in (at.op, at.rests)

pub pass-requires-in-Blocks-clause-fuel : goal.pass-requires-in-Blocks-clause-fuel
pass-requires-in-Blocks-clause-fuel c = (where_blocked _ _ _ _ _ _ _ _ c.in-Blocks.is c.run_segment-segment.ensures.machine).fuel
