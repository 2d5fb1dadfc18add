use Rattle.thread_waits.proofs.Common.{◌*◌, ◌/◌, ◌<◌, ◌≤◌, Option, arith, ap, ◌∙◌, slice_set, wake_of, number_or, Wait}
use Rattle.thread_waits.proofs.BlockLaws.{one_between}
use Rattle.thread_waits.proofs.blocks.least_wake.Goals as goal

pub loop-other-preserved : goal.loop-other-preserved
loop-other-preserved c =
    let from : c.args.place / 16 * 16 ≤ c.loop-other.other = c.loop-other.invariant.from in
    let before : c.loop-other.other < c.min-end.result = c.loop-other-test.true in
    record {
      from = omega arith;
      within = omega arith;
      least = rw c.min-least.ensures
          (one_between wake_of (slice_set c.args.places.now c.args.place c.args.next) (c.args.place / 16 * 16) c.loop-other.other c.loop-other.least c.wake_number.result from c.loop-other.invariant.least
          (c.wake_number.ensures ∙ ap (λ (w : Option Wait). number_or (wake_of w)) c.at_with-wait.ensures));
    }
