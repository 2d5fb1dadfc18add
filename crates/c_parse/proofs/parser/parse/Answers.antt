use Rattle.c_parse.proofs.Common.{nested_in_items}
use Rattle.c_parse.proofs.ParseRules.{only_tree, only_refusal}
use Rattle.c_parse.proofs.parser.parse.Goals as goal

pub returns-clause-only_tree : goal.returns-clause-only_tree
returns-clause-only_tree c =
    only_tree nested_in_items c.args.source.now c.args.tokens.now c.tree_of.result c.tree_of.ensures.tree c.tree_of.ensures.refusal

pub returns-clause-only_refusal : goal.returns-clause-only_refusal
returns-clause-only_refusal c =
    only_refusal nested_in_items c.args.source.now c.args.tokens.now c.tree_of.result c.tree_of.ensures.tree c.tree_of.ensures.refusal
