use Rattle.c_hoist.proofs.Common.{◌≡◌, ◌++◌, items_hoisted, raw_item_trees}
use Rattle.std.proofs.Common.{drop}
use Rattle.c_hoist.proofs.trees.hoisted_items.Given as goal

abbrev pub invariant-loop-item : goal.invariant-loop-item
invariant-loop-item l = raw_item_trees l.items.items ++ items_hoisted (raw_item_trees (drop l.item-index l.raw)) ≡ items_hoisted (raw_item_trees l.raw)
