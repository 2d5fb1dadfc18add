use Rattle.chunk_budget.proofs.Common.{ap, sym, ◌∙◌, max, arith, greatest, height_spawned}
use Rattle.chunk_budget.proofs.LeastBudgetLemmas.{max-is, greatest-more, greatest-over}
use Rattle.chunk_budget.proofs.made.highest_in.Goals as goal

pub loop-op-preserved : goal.loop-op-preserved
loop-op-preserved c =
    greatest-more (height_spawned c.args.heights.now) c.as_slice-ops.result.now c.loop-op.op-index c.op-item.result c.loop-op.most c.max-most.result (omega arith) c.op-item.is
    (c.max-most.ensures ∙ (max-is c.loop-op.most c.height_spawned-height.result ∙ ap (max c.loop-op.most) c.height_spawned-height.ensures)) ∙ c.loop-op.invariant

pub returns : goal.returns
returns c =
    sym (greatest-over (height_spawned c.args.heights.now) c.as_slice-ops.result.now c.loop-op.op-index c.loop-op.most (omega arith)) ∙
    (c.loop-op.invariant ∙ ap (greatest (height_spawned c.args.heights.now)) (c.as_slice-ops.ensures ∙ ap (λ f. f.ops) c.function_of.ensures.value))
