use Rattle.std.specs.Prelude.{option_map}
use Rattle.call_places.proofs.Common.{◌≡◌, ◌++◌, map, sym, ap, ◌∙◌, append-nil, on_ok_weaker, name_tree, raw_stmt_trees, raw_item_tree, is_call, stmts_places, item_places}
use Rattle.grammar_laws.proofs.NoNames.{no_declared, no_used, no_parameters}
use Rattle.call_places.proofs.calls.add_places_of_calls.Goals as goal

pub returns-in-Function : goal.returns-in-Function
returns-in-Function c =
    let f = c.in-Function.function in
    let same : item_places is_call (raw_item_tree c.args.item.now) ≡ stmts_places is_call (raw_stmt_trees c.deref.result.now) =
    ap (λ i. item_places is_call (raw_item_tree i)) c.in-Function.is
    ∙ (ap (λ x. x ++ stmts_places is_call (raw_stmt_trees f.body.items)) (no_declared (map name_tree f.params.items))
    ∙ ap (λ ss. stmts_places is_call (raw_stmt_trees ss)) (sym c.deref.ensures.value)) in
    on_ok_weaker c.add_stmts.result (λ h. h ∙ ap (λ x. c.args.places.now.items ++ x) (sym same)) c.add_stmts.ensures

pub returns-in-Table : goal.returns-in-Table
returns-in-Table c =
    let same = ap (λ i. item_places is_call (raw_item_tree i)) c.in-Table.is ∙ no_used (map name_tree c.in-Table.field-0.members.items) in
    sym (ap (λ x. c.args.places.now.items ++ x) same ∙ append-nil c.args.places.now.items)

pub returns-in-Prototype : goal.returns-in-Prototype
returns-in-Prototype c =
    let same = ap (λ i. item_places is_call (raw_item_tree i)) c.in-Prototype.is ∙ no_parameters (map (option_map name_tree) c.in-Prototype.field-0.params.items) in
    sym (ap (λ x. c.args.places.now.items ++ x) same ∙ append-nil c.args.places.now.items)
