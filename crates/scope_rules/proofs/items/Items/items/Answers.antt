use Rattle.scope_rules.proofs.Common.{◌≡◌, ◌∷◌, ◌+◌, ◌∙◌, ap, drop, raw_item_tree, raw_item_trees, least_of, sofar_of, item_faults, item_after, items_faults, drop_at}
use Rattle.scope_rules.proofs.Least.{least_of_append}
use Rattle.scope_rules.proofs.items.Items.items.Goals as goal

pub loop-item-preserved : goal.loop-item-preserved
loop-item-preserved c =
    let item = c.item-item.result in
    let raw = c.args.raw.now in
    let i = c.loop-item.item-index in
    let w = sofar_of c.loop-item.self in
    let defs = c.args.self.now.definitions in
    let d = c.loop-item.invariant.definitions in
    let cut : drop i raw ≡ item ∷ drop (i + 1) raw = drop_at raw i item c.loop-item-test.true c.item-item.is in
    let sofar = c.in_ok-item.ensures.sofar ∙ ap (λ x. item_after x w (raw_item_tree item)) d in
    let faults = c.in_ok-item.ensures.faults ∙ ap (λ x. least_of c.loop-item.self.place.least (item_faults x w (raw_item_tree item))) d in
    record {
      counted = λ h. c.in_ok-item.ensures.counted (c.loop-item.invariant.counted h);
      definitions = c.in_ok-item.ensures.definitions ∙ d;
      sofar = rw sofar (rw cut at c.loop-item.invariant.sofar);
      faults = rw (sofar, faults, ← least_of_append c.loop-item.self.place.least (item_faults defs w (raw_item_tree item)) (items_faults defs (item_after defs w (raw_item_tree item)) (raw_item_trees (drop (i + 1) raw)))) (rw cut at c.loop-item.invariant.faults);
    }
