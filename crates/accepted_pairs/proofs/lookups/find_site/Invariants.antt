use Rattle.accepted_pairs.proofs.Common.{ℕ, ◌-◌, ◌<◌, ◌≤◌, length, slice_index, fact_numbers}
use Rattle.accepted_pairs.proofs.lookups.find_site.Given as goal

abbrev pub invariant-halving : goal.invariant-halving
invariant-halving l = record {
  order : l.low ≤ l.high;
  bound : l.high ≤ length l.facts;
  below : (k : ℕ) → k < l.low → slice_index (fact_numbers l.facts) k < l.site;
  above : (k : ℕ) → l.high ≤ k → k < length l.facts → l.site ≤ slice_index (fact_numbers l.facts) k;
}

abbrev pub decreases-halving : goal.decreases-halving
decreases-halving l = l.high - l.low
