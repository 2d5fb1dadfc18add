use Rattle.blocking_graph.proofs.Common.{ℤ, length, length-set, ◌≢◌, ◌<◌, below_more, get_or-set_other, get_or-set_same, ◌≡◌, get_or, pos, FitsSigned, rules, arith, w64, to_z-of_z, w128, next_average}
use Rattle.blocking_graph.proofs.AverageLemmas.{next_from_each}
use Rattle.blocking_graph.proofs.averages.next_averages_of.Goals as goal

pub returns : goal.returns
returns c =
    next_from_each _ _ _ (omega (arith, c.told-averages)) (omega (arith, c.told-averages, c.told-samples))
    (λ k h. c.loop-resource.invariant.1 k (omega (arith, c.told-averages)))

pub loop-resource-preserved : goal.loop-resource-preserved
loop-resource-preserved c =
    let i = c.loop-resource.resource in
    let average = get_or c.args.averages.now i (pos 0) in
    let sample = get_or c.args.samples.now i (pos 0) in
    let average_fits : FitsSigned w128 average = search rules in
    let sample_fits : FitsSigned w64 sample = search rules in
    let result_fits : FitsSigned w128 c.next_average_of.result = search rules in
    let wide : c.from.result ≡ sample = rw (to_z-of_z w64 sample sample_fits) at c.from.ensures in
    let wide_fits : FitsSigned w128 c.from.result = search rules in
    let value : c.next_average_of.result ≡ next_average average sample =
    rw (to_z-of_z w128 average average_fits, to_z-of_z w128 c.from.result wide_fits, wide) at c.next_average_of.ensures in
    rw (to_z-of_z w128 c.next_average_of.result result_fits) (
      omega (arith, length-set {A = ℤ}),
      below_more _ _
          (λ k h. let ne : k ≢ i = omega arith in rw get_or-set_other (c.loop-resource.invariant.1 k h))
          (let lt : i < length c.loop-resource.next = omega arith in rw get_or-set_same value),
    )
