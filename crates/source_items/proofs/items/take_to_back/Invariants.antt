use Rattle.source_items.proofs.Common.{◌+◌, ◌≤◌, vec_len, Context, AreItems, IsPassing}
use Rattle.source_items.proofs.items.take_to_back.Given as goal

abbrev pub invariant-loop-item : goal.invariant-loop-item
invariant-loop-item l = record {
  count : l.begun + vec_len l.items ≤ vec_len l.initial.items;
  passing : (c : Context) → AreItems c l.initial.items.items → IsPassing c l.initial.items.items l.items.items l.begun;
}

abbrev pub decreases-loop-item : goal.decreases-loop-item
decreases-loop-item l = vec_len l.items
