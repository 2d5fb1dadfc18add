use Rattle.std.proofs.Common.{arith}
use Rattle.cycle_break.proofs.SeenLemmas.{first-here, first-none, marked-more}
use Rattle.cycle_break.proofs.callees.first_unmarked.Goals as goal

pub loop-place-preserved : goal.loop-place-preserved
loop-place-preserved c = marked-more c.args.visited.now c.args.functions.now c.loop-place.place c.loop-place.invariant c.if-visited-functions.true

pub returns-else-visited-functions-clause-first : goal.returns-else-visited-functions-clause-first
returns-else-visited-functions-clause-first c =
    first-here c.args.visited.now c.args.functions.now c.loop-place.place c.loop-place.invariant (omega arith) c.if-visited-functions.false

pub returns-after-loop-place-clause-first : goal.returns-after-loop-place-clause-first
returns-after-loop-place-clause-first c =
    first-none c.args.visited.now c.args.functions.now c.loop-place.place c.loop-place.invariant (omega arith)
