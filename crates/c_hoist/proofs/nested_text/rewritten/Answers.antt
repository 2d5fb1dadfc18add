use Rattle.std.proofs.lemmas.List.{nil_from_length}
use Rattle.c_hoist.proofs.Common.{◌≡◌, rules, sym, ap, subst, ◌∙◌, [], ◌∷◌, ◌++◌, append_assoc, append-nil, length, arith, into_iter_items, raw_item_tree, raw_item_trees, is_call, item_places, items_places, HasRead, item_hoisted, items_hoisted}
use Rattle.c_hoist.proofs.Rewriting.{read_of_hoisted, places_of_one_more}
use Rattle.c_hoist.proofs.nested_text.rewritten.Goals as goal

pub loop-item-init : goal.loop-item-init
loop-item-init c =
    let gives = c.into_iter-item-iterator.ensures.into_iter_gives in (
      [],
      rw c.deref.ensures.value at c.in_ok-new.ensures,
      ap (λ xs. items_hoisted (raw_item_trees xs)) gives.0,
      search rules,
      omega (arith, ap length gives.0, gives.1),
    )

pub loop-item-preserved : goal.loop-item-preserved
loop-item-preserved c =
    let steps = c.in-Some.ensures.steps in
    let rest = raw_item_trees (into_iter_items c.next.new.self) in
    let one = item_hoisted (raw_item_tree c.in-Some.item) in
    let read = c.loop-item.invariant.0 in (
      read ++ one ∷ [],
      c.in_ok-rewritten.ensures.read (raw_item_trees c.args.raw.items) read c.loop-item.invariant.1,
      append_assoc read (one ∷ []) (items_hoisted rest) ∙ (sym (ap (λ xs. read ++ items_hoisted (raw_item_trees xs)) steps.0) ∙ c.loop-item.invariant.2),
      c.in_ok-rewritten.ensures.places ∙ (ap (λ ps. ps ++ item_places is_call one) c.loop-item.invariant.3 ∙ sym (places_of_one_more read one)),
      omega (arith, ap length steps.0, steps.1, c.loop-item.invariant.4),
    )

pub returns-clause-read : goal.returns-clause-read
returns-clause-read c =
    let ts = raw_item_trees c.args.raw.items in
    let read = c.loop-item.invariant.0 in
    let none : into_iter_items c.loop-item.item-iterator ≡ [] = nil_from_length (into_iter_items c.loop-item.item-iterator) (omega (arith, c.in-None.ensures.steps.0, c.loop-item.invariant.4)) in
    let all = sym (append-nil read) ∙ (sym (ap (λ xs. read ++ items_hoisted (raw_item_trees xs)) none) ∙ c.loop-item.invariant.2) in
    subst (λ is. HasRead c.loop-item.rewritten.resolver (items_hoisted ts) is) all (read_of_hoisted c.loop-item.rewritten.resolver ts read c.loop-item.invariant.1)

pub returns-clause-places : goal.returns-clause-places
returns-clause-places c =
    let read = c.loop-item.invariant.0 in
    let none : into_iter_items c.loop-item.item-iterator ≡ [] = nil_from_length (into_iter_items c.loop-item.item-iterator) (omega (arith, c.in-None.ensures.steps.0, c.loop-item.invariant.4)) in
    let all = sym (append-nil read) ∙ (sym (ap (λ xs. read ++ items_hoisted (raw_item_trees xs)) none) ∙ c.loop-item.invariant.2) in
    c.loop-item.invariant.3 ∙ ap (items_places is_call) all
