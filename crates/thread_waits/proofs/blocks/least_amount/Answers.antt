use Rattle.thread_waits.proofs.Common.{◌*◌, ◌/◌, ◌<◌, ◌≤◌, Option, arith, ap, ◌∙◌, slice_set, amount_of, number_or, Wait}
use Rattle.thread_waits.proofs.BlockLaws.{one_between}
use Rattle.thread_waits.proofs.blocks.least_amount.Goals as goal

pub loop-other-preserved : goal.loop-other-preserved
loop-other-preserved c =
    let from : c.args.place / 16 * 16 ≤ c.loop-other.other = c.loop-other.invariant.from in
    let before : c.loop-other.other < c.min-end.result = c.loop-other-test.true in
    record {
      from = omega arith;
      within = omega arith;
      least = rw c.min-least.ensures
          (one_between (amount_of c.args.resource) (slice_set c.args.places.now c.args.place c.args.next) (c.args.place / 16 * 16) c.loop-other.other c.loop-other.least c.amount_number.result from c.loop-other.invariant.least
          (c.amount_number.ensures ∙ ap (λ (w : Option Wait). number_or (amount_of c.args.resource w)) c.at_with-wait.ensures));
    }
