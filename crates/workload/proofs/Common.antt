-- The names that this crate's proofs cite from other crates and from its definitions, passed on from one place. Declares nothing.
pub use Rattle.std.proofs.Common.{[], ◌%◌, ◌*◌, ◌++◌, ◌+◌, ◌<◌, ◌^◌, ◌∙◌, ◌∷◌, ◌≡◌, ◌≢◌, ◌≤◌, Bool, FitsSigned, List, None, Some, add-one, ap, append-nil, append_assoc, arith, drop, false, get_or, inl, inr, length, lit<, lit≤, map, of_z, pos, refl, subst, suc, sym, take, to_z, true, zero, ℕ, ℤ, ⊎_elim}
pub use Rattle.c_lex.proofs.TakenLemmas.{AllWordBytes-inside}
pub use Rattle.scope_rules.proofs.Links.{same_itself}
pub use Rattle.std.proofs.lemmas.Bool.{and_parts, both_ways, false_from_ne_true}
pub use Rattle.std.proofs.lemmas.Bool.Decides.{nat_tests}
pub use Rattle.std.proofs.lemmas.List.{drop-drop, length-append}
pub use Rattle.std.proofs.lemmas.List.Sums.{sum_by-cons, sum_by-take-le}
pub use Rattle.std.proofs.lemmas.Slice.Eq.{bytes_eq-Decides}
pub use Rattle.std.specs.List.{list_any}
pub use Rattle.std.specs.Prelude.{IsTrue, codes, if◌then◌else◌, nat_eq, nat_lt, not, option_map, sum, sum_by, ◌&&◌, ◌||◌}
pub use Rattle.std.specs.Str.{bytes_eq}
pub use Rattle.c_lex.specs.Bytes.{is_letter, is_white_space, is_word_byte}
pub use Rattle.c_lex.specs.Gaps.{IsGap}
pub use Rattle.c_lex.specs.Gaps.IsGap.{nothing, space}
pub use Rattle.c_lex.specs.Keywords.{keyword_text}
pub use Rattle.c_lex.specs.Lexemes.{AllWordBytes, IsIdentifier, IsLexeme, IsOfKind, IsTaken, IsWord}
pub use Rattle.c_lex.specs.Marks.{mark_text}
pub use Rattle.c_lex.specs.Numbers.{IsDecimal, IsNumber}
pub use Rattle.c_lex.specs.Tokens.{AreTokensOf, LeadsTo}
pub use Rattle.c_lex.specs.declared.keywords.Keyword.{Keyword}
pub use Rattle.c_lex.specs.declared.marks.Mark.{Mark}
pub use Rattle.c_lex.specs.declared.tokens.Token.{Token}
pub use Rattle.c_lower.specs.ProgramCode.{function_sizes, lowered, lowered_function}
pub use Rattle.c_scope.specs.SourceText.{ReadsAs}
pub use Rattle.c_tree.specs.RawTrees.{And, NameTree, NoExprs, NoRawStmts, RawBinary, RawCall, RawCalling, RawDeclareScalar, RawDo, RawExprTree, RawFor, RawFunctionItem, RawItemTree, RawName, RawNumber, RawReturn, RawSet, RawStmtTrees, RawThen}
pub use Rattle.c_tree.specs.Trees.{Binary, CallFunction, CallModelled, CallSpawn, Called, Calling, Computed, DeclareScalar, Do, For, FunctionTree, Local, NoStmts, Number, ProgramTree, Return, SetLocal, Then}
pub use Rattle.c_tree.specs.declared.operators.BinaryOperator.{BinaryOperator}
pub use Rattle.cap_text.proofs.DecimalLaws.{decimal_digits, decimal_unique, decimal_value, first_of_decimal, length_decimal}
pub use Rattle.cap_text.specs.Decimals.{canonical_decimal}
unfoldable pub use Rattle.cap_text.specs.Decimals.{canonical_integer}
pub use Rattle.codegen_link.specs.Layout.{function_words}
pub use Rattle.scope_rules.specs.Calls.{next}
pub use Rattle.scope_rules.specs.Items.{Sofar, at_start, definitions, has_main, is_missing, item_after, item_faults, items_after, items_faults, modelled_names, program_of, with_definition, with_definitions}
pub use Rattle.scope_rules.specs.Meanings.{function_of}
pub use Rattle.scope_rules.specs.Names.{Binding, find}
pub use Rattle.workload.specs.Programs.{line_feed}
unfoldable pub use Rattle.workload.specs.Programs.{chain_text, first_line, link_line, main_line, program_text, worker_line}
unfoldable pub use Rattle.workload.specs.Traces.{arrival_line, lines_below, message_line}
