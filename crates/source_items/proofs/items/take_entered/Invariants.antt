use Rattle.source_items.proofs.Common.{◌≡◌, vec_len, Context, AreItems, entered, to_do}
use Rattle.source_items.proofs.items.take_entered.Given as goal

abbrev pub invariant-loop-item : goal.invariant-loop-item
invariant-loop-item l = record {
  entered : entered (to_do l.items.items) ≡ entered (to_do l.initial.items.items);
  fits : (c : Context) → AreItems c l.initial.items.items → AreItems c l.items.items;
}

abbrev pub decreases-loop-item : goal.decreases-loop-item
decreases-loop-item l = vec_len l.items
