use Rattle.chunk_budget.proofs.Common.{refl, ap, sym, ◌∙◌, None, function_at, program_code, least_in, low_site}
use Rattle.chunk_budget.proofs.LeastLemmas.{below_more}
use Rattle.chunk_budget.proofs.sites.least_of_sites.Goals as goal

pub loop-function-init : goal.loop-function-init
loop-function-init c = record { known = c.nothing_known-known.ensures (program_code c.args.flat.now) c.args.heights.now; least = refl }

pub loop-function-preserved : goal.loop-function-preserved
loop-function-preserved c =
    let code = program_code c.args.flat.now in
    let number = low_site code c.args.certificate.now c.args.heights.now in
    let f = c.loop-function.function in
    record {
      known = c.least_in_function-least.ensures.known;
      least = c.least_in_function-least.ensures.least ∙ (ap (least_in (number f) (function_at code f).ops) c.loop-function.invariant.least ∙ sym (below_more number code None f));
    }
