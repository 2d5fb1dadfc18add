use Rattle.std.proofs.Common.{ℕ, ◌<◌, ◌≤◌, ◌+◌, ◌-◌, ◌/◌, length, arith, sym, ◌∙◌}
use Rattle.accepted_pairs.proofs.RisingLemmas.{half_below, half_above, nowhere, number_get}
use Rattle.accepted_pairs.proofs.lookups.find_site.Goals as goal
use Rattle.accepted_pairs.proofs.lookups.find_site.Goals.{else-low-facts-via-then-low-facts+else-facts-low, else-low-facts-via-else-low-facts}

pub halving-preserved-then-facts-middle : goal.halving-preserved-then-facts-middle
halving-preserved-then-facts-middle c = record {
  order = omega arith;
  bound = c.halving.invariant.bound;
  below = λ k lt. half_below c.args.facts.now (c.halving.low + (c.halving.high - c.halving.low) / 2) k c.args.site _ c.requires (omega arith) c.if-facts-middle.true (omega arith);
  above = c.halving.invariant.above;
}

pub halving-preserved : goal.halving-preserved
halving-preserved c = record {
  order = omega arith;
  bound = omega arith;
  below = c.halving.invariant.below;
  above = λ k le lt. half_above c.args.facts.now (c.halving.low + (c.halving.high - c.halving.low) / 2) k c.args.site _ c.requires (omega arith) c.if-facts-middle.false le lt;
}

pub returns-else-low-facts-clause-absent : goal.returns-else-low-facts-clause-absent
returns-else-low-facts-clause-absent c =
    let above = λ (k : ℕ) (le : c.halving.low ≤ k) (lt : k < length c.args.facts.now). c.halving.invariant.above k (omega arith) lt in
    elim c.else-low-facts.branch [
      | else-low-facts-via-then-low-facts+else-facts-low w ↦ nowhere c.args.facts.now c.halving.low c.args.site c.requires c.halving.invariant.below above (λ lt is. w.if-facts-low.false (sym (number_get c.args.facts.now c.halving.low _ lt) ∙ is))
      | else-low-facts-via-else-low-facts w ↦ nowhere c.args.facts.now c.halving.low c.args.site c.requires c.halving.invariant.below above (λ lt is. absurd (omega arith))
    ]
