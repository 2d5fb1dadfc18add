use Rattle.chunk_budget.proofs.Common.{ap, sym, ◌∙◌, function_at, program_code, least_in, high_function, high_root}
use Rattle.chunk_budget.proofs.LeastLemmas.{below_more}
use Rattle.chunk_budget.proofs.roots.least_of_roots.Goals as goal

pub loop-function-preserved : goal.loop-function-preserved
loop-function-preserved c =
    let code = program_code c.args.flat.now in
    let number = high_root c.args.chunks c.args.heights.now in
    let first = high_function c.args.chunks c.args.heights.now code.main in
    let f = c.loop-function.function in
    c.least_in_function-least.ensures ∙ (ap (least_in (number f) (function_at code f).ops) c.loop-function.invariant ∙ sym (below_more number code first f))
