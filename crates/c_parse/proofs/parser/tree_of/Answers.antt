use Rattle.c_parse.proofs.Common.{sym, ap, ◌∙◌, raw_item_trees, nested_in_items, exit}
use Rattle.c_parse.proofs.ParseRules.{parsed_tree, parsed_nested, parsed_refused}
use Rattle.c_parse.proofs.parser.tree_of.Goals as goal

pub returns-in_err-items-clause-refusal : goal.returns-in_err-items-clause-refusal
returns-in_err-items-clause-refusal c =
    exit _ _ c.from_residual.ensures.1 (parsed_refused nested_in_items c.args.source.now _ _ c.in_err-items.ensures.refused)

pub returns-in-Some-clause-refusal : goal.returns-in-Some-clause-refusal
returns-in-Some-clause-refusal c other =
    let e = sym (ap (λ l. nested_in_items (raw_item_trees l)) c.deref.ensures.value) ∙ sym c.in-Some.ensures in
    parsed_nested nested_in_items c.args.source.now c.args.tokens.now _ c.in-Some.at c.in_ok-items.ensures.read.tree c.in_ok-items.ensures.read.runs e

pub returns-in-None-clause-tree : goal.returns-in-None-clause-tree
returns-in-None-clause-tree c =
    let e = sym (ap (λ l. nested_in_items (raw_item_trees l)) c.deref.ensures.value) ∙ sym c.in-None.ensures in
    rw c.new.ensures (parsed_tree nested_in_items c.args.source.now c.args.tokens.now _ c.in_ok-items.ensures.read.tree c.in_ok-items.ensures.read.runs e)
