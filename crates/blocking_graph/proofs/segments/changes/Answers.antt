use Rattle.blocking_graph.proofs.Common.{w64, FitsSigned, rules, ◌≢◌, ◌<◌, length, arith, ◌∙◌, below_more, get_or-set_other, get_or-set_same, length-set, to_z-of_z}
use Rattle.blocking_graph.proofs.segments.changes.Goals as goal

pub loop-place-preserved : goal.loop-place-preserved
loop-place-preserved c =
    let size = c.loop-place.invariant.1 in
    let fits : FitsSigned w64 c.difference.result = search rules in
    let lt : c.loop-place.place < length c.loop-place.change = omega (arith, size, c.loop-place-test.true) in (
      below_more _ _
          (λ k h. let ne : k ≢ c.loop-place.place = omega arith in rw get_or-set_other (c.loop-place.invariant.0 k h))
          (rw get_or-set_same (to_z-of_z w64 c.difference.result fits ∙ c.difference.ensures)),
      length-set _ _ _ ∙ size,
    )
