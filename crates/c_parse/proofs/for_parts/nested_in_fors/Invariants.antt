use Rattle.c_parse.proofs.Common.{◌≡◌, drop, raw_item_trees, earlier, nested_in_fors}
use Rattle.c_parse.proofs.for_parts.nested_in_fors.Given as goal

abbrev pub invariant-loop-item : goal.invariant-loop-item
invariant-loop-item l = earlier l.found (nested_in_fors (raw_item_trees (drop l.item-index l.items))) ≡ nested_in_fors (raw_item_trees l.items)
