use Rattle.blocking_graph.proofs.Common.{ℤ, length, length-set, ◌≢◌, ◌<◌, ◌≤◌, ◌^◌, below_more, get_or-set_other, get_or-set_same, ◌≡◌, ◌+ℤ◌, ◌-ℤ◌, get_or, pos, unsigned_abs, FitsSigned, rules, arith, to_z-of_z, fits_signed_from_abs, w128, weight, weight_or_0}
use Rattle.blocking_graph.proofs.sums.NodeSums.moved.Goals as goal

pub loop-resource-preserved : goal.loop-resource-preserved
loop-resource-preserved c =
    let i = c.loop-resource.resource in
    let total = get_or c.args.self.now.change i (pos 0) in
    let less = c.weight_or_0_of-from.result in
    let more = c.weight_of-to.result in
    let small : unsigned_abs total ≤ 2 ^ 79 = c.requires.small i (omega arith) in
    let total_fits : FitsSigned w128 total = fits_signed_from_abs w128 total (omega arith) in
    let less_fits : FitsSigned w128 less = fits_signed_from_abs w128 less (omega (arith, c.weight_or_0_of-from.ensures.small)) in
    let more_fits : FitsSigned w128 more = fits_signed_from_abs w128 more (omega (arith, c.weight_of-to.ensures.small)) in
    let result_fits : FitsSigned w128 c.moved_by.result = search rules in
    let value : c.moved_by.result ≡ (total -ℤ weight_or_0 c.args.before.now i) +ℤ weight c.args.after.now i =
    rw (to_z-of_z w128 total total_fits, to_z-of_z w128 less less_fits, to_z-of_z w128 more more_fits, c.weight_or_0_of-from.ensures.value, c.weight_of-to.ensures.value) at c.moved_by.ensures in
    record {
      eight = omega (arith, length-set {A = ℤ});
      each = rw (to_z-of_z w128 c.moved_by.result result_fits)
          (below_more _ _
          (λ k h. let ne : k ≢ i = omega arith in rw get_or-set_other (c.loop-resource.invariant.each k h))
          (let lt : i < length c.loop-resource.change = omega arith in rw get_or-set_same value));
    }
