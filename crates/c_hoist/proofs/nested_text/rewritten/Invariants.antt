use Rattle.c_hoist.proofs.Common.{◌≡◌, List, ◌++◌, length, into_iter_items, into_iter_len, RawItemTree, raw_item_trees, is_call, items_places, HasRead, items_hoisted}
use Rattle.c_hoist.proofs.nested_text.rewritten.Given as goal

abbrev pub invariant-loop-item : goal.invariant-loop-item
invariant-loop-item l =
    (read : List RawItemTree)
    × HasRead l.rewritten.resolver (raw_item_trees l.fn.raw.items) read
    × (read ++ items_hoisted (raw_item_trees (into_iter_items l.item-iterator)) ≡ items_hoisted (raw_item_trees l.fn.raw.items))
    × (l.rewritten.places.items ≡ items_places is_call read)
    × (into_iter_len l.item-iterator ≡ length (into_iter_items l.item-iterator))
