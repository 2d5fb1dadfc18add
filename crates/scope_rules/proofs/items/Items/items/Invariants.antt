use Rattle.scope_rules.proofs.Common.{◌≡◌, drop, raw_item_trees, least_of, sofar_of, IsCounted, items_after, items_faults}
use Rattle.scope_rules.proofs.items.Items.items.Given as goal

abbrev pub invariant-loop-item : goal.invariant-loop-item
invariant-loop-item l = record {
  counted : IsCounted l.initial.self → IsCounted l.self;
  definitions : l.self.definitions ≡ l.initial.self.definitions;
  sofar : items_after l.initial.self.definitions (sofar_of l.self) (raw_item_trees (drop l.item-index l.raw)) ≡ items_after l.initial.self.definitions (sofar_of l.initial.self) (raw_item_trees l.raw);
  faults : least_of l.self.place.least (items_faults l.initial.self.definitions (sofar_of l.self) (raw_item_trees (drop l.item-index l.raw))) ≡ least_of l.initial.self.place.least (items_faults l.initial.self.definitions (sofar_of l.initial.self) (raw_item_trees l.raw));
}
