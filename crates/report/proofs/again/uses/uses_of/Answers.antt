use Rattle.std.proofs.Common.{◌≢◌, ◌<◌, length, arith, ◌∙◌, below_more, get_or-set_other, get_or-set_same, length-set}
use Rattle.report.proofs.again.uses.uses_of.Goals as goal

pub loop-resource-preserved : goal.loop-resource-preserved
loop-resource-preserved c =
    let size = c.loop-resource.invariant.1 in
    let lt : c.loop-resource.resource < length c.loop-resource.uses = omega (arith, size, c.loop-resource-test.true) in (
      below_more _ _
          (λ k h. let ne : k ≢ c.loop-resource.resource = omega arith in rw get_or-set_other (c.loop-resource.invariant.0 k h))
          (rw get_or-set_same c.at_most.ensures),
      length-set _ _ _ ∙ size,
    )
