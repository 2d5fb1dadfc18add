use Rattle.scope_rules.proofs.Common.{◌≡◌, drop, raw_item_trees, with_definitions, definitions}
use Rattle.scope_rules.proofs.items.definitions.Given as goal

abbrev pub invariant-loop-item : goal.invariant-loop-item
invariant-loop-item l = with_definitions l.definitions (raw_item_trees (drop l.item-index l.raw)) ≡ definitions (raw_item_trees l.raw)
