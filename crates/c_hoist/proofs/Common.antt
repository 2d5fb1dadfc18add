-- The names that this crate's proofs cite from other crates and from its definitions, passed on from one place. Declares nothing.
pub use Rattle.std.proofs.Common.{[], ◌++◌, ◌+◌, ◌∙◌, ◌∷◌, ◌≡◌, ◌≢◌, ◌⊎◌, Bool, List, None, Option, Result, Some, ap, append-nil, append_assoc, arith, length, map, refl, rules, subst, suc, sym, zero, ℕ}
pub use Rattle.std.specs.Prelude.{Err, IfErr, IfOk, IsErrOf, MatchResult, Ok, option_map, slice_index_or}
pub use Rattle.std.specs.Vec.Iter.{into_iter_items, into_iter_len}
pub use Rattle.c_lex.proofs.PlaceLemmas.{tokens_stand}
pub use Rattle.c_parse.proofs.ForWhole.{for_parts_whole}
pub use Rattle.c_scope.specs.declared.source_errors.SourceError.{SourceError}
pub use Rattle.c_tree.specs.ProgramView.{program_tree}
pub use Rattle.c_tree.specs.RawTrees.{NameTree, NoRawStmts, RawBlock, RawDo, RawExprTree, RawFor, RawFunctionItem, RawIf, RawIfElse, RawItemTree, RawReturn, RawStmtTree, RawStmtTrees, RawThen, RawWhile}
pub use Rattle.c_tree.specs.RawViews.{name_tree, raw_in_order, raw_item_tree, raw_item_trees, raw_stmt_trees}
pub use Rattle.c_tree.specs.TextOrder.{counting}
pub use Rattle.c_tree.specs.Trees.{Block, CallFunction, CallModelled, CallSpawn, CallTable, CallTree, Called, Calling, Computed, DeclareWith, Do, For, FunctionTree, If, IfElse, NoStmts, ProgramTree, Return, RightTree, SetGlobal, SetGlobalElement, SetLocal, SetLocalElement, SimpleTree, StmtTree, StmtTrees, Then, While}
pub use Rattle.c_tree.specs.WholeCalls.{AreCallsWhole, AreStmtsWhole, IsItemWhole, IsReturnWhole, IsStmtWhole}
pub use Rattle.c_tree.specs.declared.programs.Program.{Program}
pub use Rattle.grammar_laws.proofs.Trees.{program_rises}
pub use Rattle.grammar_laws.specs.Nested.{is_call}
pub use Rattle.grammar_laws.specs.Places.{item_places, items_places, stmts_places}
pub use Rattle.grammar_laws.specs.Ranks.{ranks, site_numbers}
pub use Rattle.hoist_parts.specs.Statements.{all_hoisted, hoisted, item_hoisted, items_hoisted, returned_before, returned_left, stmt_names}
pub use Rattle.scope_rules.specs.Items.{at_start, definitions, items_after, items_faults, program_of}
pub use Rattle.scope_rules.specs.Making.{IsMaking, Making, closed_each, made_by, with_statements}
pub use Rattle.scope_rules.specs.Numbered.{IsResolvedBy, call_numbered, function_numbered, number_at, numbered, right_numbered, simple_numbered, stmt_numbered, stmts_numbered}
pub use Rattle.scope_rules.specs.Outcomes.{IsNoMemory, IsResolved}
pub use Rattle.scope_rules.specs.Reading.{Agrees, HasRead}
pub use Rattle.c_hoist.specs.NestedText.{IsHoistedTo, IsNestedSourceErrorOf, IsRefusedHoisted, MeansText, ReadsNested}
