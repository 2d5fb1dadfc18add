use Rattle.chunk_budget.proofs.Common.{ap, sym, ◌∙◌, max, arith, common_steps, program_code, greatest, height_asked}
use Rattle.chunk_budget.proofs.LeastBudgetLemmas.{max-is, greatest-more, greatest-over}
use Rattle.chunk_budget.proofs.made.height_over.Goals as goal

pub loop-op-init : goal.loop-op-init
loop-op-init c = record { known = c.nothing_known-known.ensures (program_code c.args.flat.now) c.args.heights.now; most = grind (arith, common_steps) }

pub loop-op-preserved : goal.loop-op-preserved
loop-op-preserved c =
    let value = height_asked (program_code c.args.flat.now) c.args.certificate.now c.args.heights.now in
    record {
      known = c.height_asked-asked.ensures.known;
      most = greatest-more value c.as_slice-ops.result.now c.loop-op.op-index c.op-item.result c.loop-op.most c.max-most.result (omega arith) c.op-item.is
          (c.max-most.ensures ∙ (max-is c.loop-op.most c.height_asked-asked.result ∙ ap (max c.loop-op.most) c.height_asked-asked.ensures.asked)) ∙ c.loop-op.invariant.most;
    }

pub returns : goal.returns
returns c =
    let value = height_asked (program_code c.args.flat.now) c.args.certificate.now c.args.heights.now in
    sym (greatest-over value c.as_slice-ops.result.now c.loop-op.op-index c.loop-op.most (omega arith)) ∙
    (c.loop-op.invariant.most ∙ ap (greatest value) (c.as_slice-ops.ensures ∙ ap (λ f. f.ops) c.function_of.ensures.value))
