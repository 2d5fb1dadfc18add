use Rattle.call_places.proofs.Common.{◌≡◌, ◌++◌, drop, raw_item_trees, is_call, items_places}
use Rattle.call_places.proofs.calls.add_items.Given as goal

abbrev pub invariant-loop-item : goal.invariant-loop-item
invariant-loop-item l = l.places.items ++ items_places is_call (raw_item_trees (drop l.item-index l.items)) ≡ l.initial.places.items ++ items_places is_call (raw_item_trees l.items)
