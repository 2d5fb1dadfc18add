use Rattle.scheduler.proofs.Common.{◌≢◌, ◌<◌, length, slice_index, arith, ◌∙◌, below_more, get_or-set_other, get_or-set_same, length-set, prediction, pressure_at}
use Rattle.scheduler.proofs.ScoreLemmas.{score_of_first-same}
use Rattle.scheduler.proofs.scores.pressures_of.Goals as goal

pub loop-resource-preserved : goal.loop-resource-preserved
loop-resource-preserved g c =
    let size = c.loop-resource.invariant.eight in
    let lt : c.loop-resource.resource < length c.loop-resource.pressures = omega (arith, size, c.loop-resource-test.true) in record {
      same = below_more _ _
          (λ k h. let ne : k ≢ c.loop-resource.resource = omega arith in rw get_or-set_other (c.loop-resource.invariant.same k h))
          (rw get_or-set_same c.pressure.ensures.value);
      most = below_more _ _
          (λ k h. let ne : k ≢ c.loop-resource.resource = omega arith in rw get_or-set_other (c.loop-resource.invariant.most k h))
          (rw get_or-set_same c.pressure.ensures.most);
      eight = length-set _ _ _ ∙ size;
    }

pub returns-clause-scores : goal.returns-clause-scores
returns-clause-scores g c = λ edges node.
    score_of_first-same (slice_index c.loop-resource.pressures) (pressure_at c.args.monitor.now) (prediction edges node) 8
    (λ resource below. c.loop-resource.invariant.same resource (omega arith))
