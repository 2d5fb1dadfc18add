use Rattle.std.proofs.Common.{inl, inr}
use Rattle.decisions.proofs.Parsing.{tokens_parse, tokens_parse_nested}
use Rattle.decisions.proofs.token_trees.tokens_are_a_tree_or_refused.Goals as goal

pub returns-clause-whole : goal.returns-clause-whole
returns-clause-whole c = tokens_parse

pub returns-clause-nested : goal.returns-clause-nested
returns-clause-nested c = λ source tokens. elim (tokens_parse_nested source tokens) [ inl a ↦ inl (a.tree, a.parsed) | inr refused ↦ inr refused ]
