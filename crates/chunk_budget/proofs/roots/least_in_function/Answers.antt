use Rattle.chunk_budget.proofs.Common.{ap, sym, ◌∙◌, arith, lesser, least_in, high_root}
use Rattle.chunk_budget.proofs.LeastLemmas.{least_more, least_over}
use Rattle.chunk_budget.proofs.roots.least_in_function.Goals as goal

pub loop-op-preserved : goal.loop-op-preserved
loop-op-preserved c =
    let number = high_root c.args.chunks c.args.heights.now c.args.function in
    least_more number c.as_slice-ops.result.now c.loop-op.op-index c.op-item.result c.loop-op.least c.lesser-least.result (omega arith) c.op-item.is
    (c.lesser-least.ensures ∙ ap (lesser c.loop-op.least) c.high_root-root.ensures) ∙ c.loop-op.invariant

pub returns : goal.returns
returns c =
    let number = high_root c.args.chunks c.args.heights.now c.args.function in
    sym (least_over number c.as_slice-ops.result.now c.loop-op.op-index c.loop-op.least (omega arith)) ∙
    (c.loop-op.invariant ∙ ap (λ ops. least_in number ops c.args.first) (c.as_slice-ops.ensures ∙ ap (λ f. f.ops) c.function_of.ensures.value))
