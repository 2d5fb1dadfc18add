use Rattle.chunk_budget.proofs.Common.{ap, sym, ◌∙◌, arith, program_code, lesser, least_in, low_site}
use Rattle.chunk_budget.proofs.LeastLemmas.{least_more, least_over}
use Rattle.chunk_budget.proofs.sites.least_in_function.Goals as goal

pub loop-op-preserved : goal.loop-op-preserved
loop-op-preserved c =
    let number = low_site (program_code c.args.flat.now) c.args.certificate.now c.args.heights.now c.args.function in
    record {
      known = c.low_site-site.ensures.known;
      least = least_more number c.as_slice-ops.result.now c.loop-op.op-index c.op-item.result c.loop-op.least c.lesser-least.result (omega arith) c.op-item.is
          (c.lesser-least.ensures ∙ ap (lesser c.loop-op.least) c.low_site-site.ensures.site) ∙ c.loop-op.invariant.least;
    }

pub returns : goal.returns
returns c =
    let number = low_site (program_code c.args.flat.now) c.args.certificate.now c.args.heights.now c.args.function in
    record {
      least = sym (least_over number c.as_slice-ops.result.now c.loop-op.op-index c.loop-op.least (omega arith)) ∙
          (c.loop-op.invariant.least ∙ ap (λ ops. least_in number ops c.args.first) (c.as_slice-ops.ensures ∙ ap (λ f. f.ops) c.function_of.ensures.value));
      known = c.loop-op.invariant.known;
    }
