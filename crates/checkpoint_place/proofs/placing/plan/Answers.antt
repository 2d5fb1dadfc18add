use Rattle.checkpoint_place.proofs.Common.{◌<◌, reverse, sym, ◌∙◌, arith, reverse-reverse, AllByRecursion, function_count, has-reverse}
use Rattle.cycle_break.proofs.OrderLemmas.{all-reversed}
use Rattle.checkpoint_place.proofs.PlanLemmas.{all-fit}
use Rattle.checkpoint_place.proofs.WeightLemmas.{greatest-weight}
use Rattle.checkpoint_place.proofs.placing.plan.Goals as goal

pub bounds_of-requires-clause-weights : goal.bounds_of-requires-clause-weights
bounds_of-requires-clause-weights c = all-fit c.args.max_path 0 c.args.graph.now.weights c.requires.fits

pub returns-clause-placed : goal.returns-clause-placed
returns-clause-placed c =
    let graph = c.args.graph.now in
    let order = c.in_ok-order.order.items in
    let bounds = rw (c.as_slice.ensures.value, c.in_ok-index.ensures.without) at c.in_ok-bounds.ensures.bounds in
    let checkpointed = rw c.as_slice-2.ensures.value at c.in_ok-checkpointed.ensures in
    rw (c.new-2.ensures, c.new-3.ensures)
    (record {
      each = omega (arith, c.in_ok-bounds.ensures.each);
      bounds = λ f lt. bounds f (sym (has-reverse f order) ∙ c.in_ok-order.ensures.all f lt);
      checkpointed = checkpointed;
    })

pub returns-clause-greatest : goal.returns-clause-greatest
returns-clause-greatest c = λ f lt.
    let graph = c.args.graph.now in
    let order = c.in_ok-order.order.items in
    let small : AllByRecursion (λ n. n < function_count graph) (reverse order) =
    all-reversed (λ n. n < function_count graph) (reverse order) (rw (reverse-reverse order) c.in_ok-order.ensures.functions) in
    greatest-weight graph c.args.back.now c.args.max_path _ c.weights-functions.ensures.kept (returns-clause-placed c) (reverse order)
    (c.in_ok-order.ensures.bottom_up c.requires.breaks) small f lt (c.in_ok-order.ensures.all f lt)
