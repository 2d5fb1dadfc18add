use Rattle.std.proofs.Common.{◌≡◌, ℕ, ◌+◌, ◌<◌, ◌≤◌, length, get_or, drop}
use Rattle.grammar_laws.specs.Ranks.{lesser}
use Rattle.call_numbers.proofs.Counts.{equal}
use Rattle.call_numbers.proofs.numbers.starts.Given as goal

abbrev pub invariant-loop-place : goal.invariant-loop-place
invariant-loop-place l = record {
  size : length l.counts.items ≡ length l.initial.counts.items;
  counted : (k : ℕ) → k < length l.counts.items → get_or l.counts.items k 0 + equal k (drop l.place-index l.places) ≡ equal k l.places;
}

abbrev pub invariant-loop-at : goal.invariant-loop-at
invariant-loop-at l = record {
  size : length l.counts.items ≡ length l.initial.counts.items;
  sum : l.sum ≡ lesser l.at l.places;
  below : (k : ℕ) → k < l.at → get_or l.counts.items k 0 ≡ lesser k l.places;
  above : (k : ℕ) → l.at ≤ k → k < length l.counts.items → get_or l.counts.items k 0 ≡ equal k l.places;
}
