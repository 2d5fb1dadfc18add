-- The names that this crate's proofs cite from other crates and from its definitions, passed on from one place. Declares nothing.
pub use Rattle.std.proofs.Common.{[], ◌++◌, ◌∙◌, ◌∷◌, ◌≡◌, List, ap, append_assoc, drop, map, refl, sym, ℕ}
pub use Rattle.std.proofs.lemmas.List.{append-nil}
pub use Rattle.std.proofs.lemmas.Result.{on_ok_weaker}
pub use Rattle.c_tree.proofs.RawExprEquations.{raw_expr_tree-Call, raw_expr_tree-Chain, raw_expr_tree-Conditional, raw_expr_tree-TableCall, raw_operand_tree}
pub use Rattle.c_tree.specs.RawViews.{name_tree, raw_chained, raw_expr_tree, raw_expr_trees, raw_item_tree, raw_item_trees, raw_joined, raw_simple_tree, raw_stmt_trees}
pub use Rattle.grammar_laws.specs.Nested.{is_call}
pub use Rattle.grammar_laws.specs.Places.{expr_places, exprs_places, item_places, items_places, simples_places, stmts_places}
