use Rattle.scope_rules.proofs.Common.{◌∙◌, ap, None, raw_item_trees, least_of, items_after, items_faults, sofar_of}
use Rattle.scope_rules.proofs.ReadItems.{read_all}
use Rattle.scope_rules.proofs.resolver.read_items.Goals as goal

pub returns : goal.returns
returns c =
    let is = raw_item_trees c.args.raw.now in
    let first = c.in_ok-items.items in
    let defs = first.definitions in
    let begun = c.in_ok-items.ensures in
    let read = c.in_ok-items-2.ensures in
    read_all c.items.new.self is defs read.definitions (begun.definitions ∙ c.in_ok-definitions.ensures)
    (read.sofar ∙ ap (λ x. items_after defs x is) begun.sofar)
    (read.faults ∙ (ap (λ x. least_of x (items_faults defs (sofar_of first) is)) begun.faults ∙ ap (λ x. least_of None (items_faults defs x is)) begun.sofar))
    (read.counted begun.counted)
