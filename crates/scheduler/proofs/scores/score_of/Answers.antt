use Rattle.scheduler.proofs.Common.{◌≡◌, ◌≤◌, ◌+◌, ◌*◌, ◌^◌, ℤ, ◌+ℤ◌, unsigned_abs, slice_index, to_z, ap, sym, ◌∙◌, arith, w128, prediction, score_of_first, sum-le}
use Rattle.scheduler.proofs.ScoreLemmas.{computed_sum, score_of_first-more, score_of_first-none}
use Rattle.scheduler.proofs.scores.score_of.Goals as goal

pub expected_strain-total-requires-clause-most : goal.expected_strain-total-requires-clause-most
expected_strain-total-requires-clause-most c = c.requires c.loop-resource.resource (omega arith)

pub loop-resource-init : goal.loop-resource-init
loop-resource-init c = record {
  total = sym (score_of_first-none (slice_index c.args.pressures.now) (prediction c.args.graph.now.edges c.args.node));
  small = omega arith;
}

pub loop-resource-preserved : goal.loop-resource-preserved
loop-resource-preserved c =
    let so_far = to_z w128 c.loop-resource.total-bits in
    let part = c.expected_strain-total.result in
    let n = c.loop-resource.resource in
    let pressure = slice_index c.args.pressures.now in
    let predicted = prediction c.args.graph.now.edges c.args.node in
    let sum = computed_sum so_far part n c.loop-resource.invariant.small (omega arith) c.expected_strain-total.ensures.small in
    record {
      total = sum
          ∙ ap (λ (z : ℤ). z +ℤ part) c.loop-resource.invariant.total
          ∙ ap (λ (z : ℤ). score_of_first pressure predicted n +ℤ z) c.expected_strain-total.ensures.value
          ∙ sym (score_of_first-more pressure predicted n);
      small = rw sum
          (let both : unsigned_abs (so_far +ℤ part) ≤ n * (1000 * 2 ^ 39) + 1000 * 2 ^ 39 =
          sum-le so_far part (n * (1000 * 2 ^ 39)) (1000 * 2 ^ 39) c.loop-resource.invariant.small c.expected_strain-total.ensures.small in
          omega arith);
    }

pub returns : goal.returns
returns c =
    let done : c.loop-resource.resource ≡ 8 = omega arith in
    c.loop-resource.invariant.total ∙ ap (score_of_first (slice_index c.args.pressures.now) (prediction c.args.graph.now.edges c.args.node)) done
