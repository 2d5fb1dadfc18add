use Rattle.chunk_budget.proofs.Common.{arith, program_code}
use Rattle.chunk_budget.proofs.LeastBudgetLemmas.{spawned_by, below-more, max-is}
use Rattle.chunk_budget.proofs.made.highest_root.Goals as goal

pub loop-function-preserved : goal.loop-function-preserved
loop-function-preserved c =
    let code = program_code c.args.flat.now in
    let more = below-more (spawned_by code c.args.heights.now) c.loop-function.function in
    let most = max-is c.loop-function.most c.highest_in-height.result in
    omega (arith, more, most, c.max-most.ensures, c.highest_in-height.ensures, c.loop-function.invariant)
