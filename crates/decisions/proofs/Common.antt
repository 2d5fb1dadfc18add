-- The names that this crate's proofs cite from other crates and from its definitions, passed on from one place. Declares nothing.
pub use Rattle.std.proofs.Common.{[], ◌%◌, ◌*◌, ◌++◌, ◌+◌, ◌-◌, ◌<◌, ◌^◌, ◌∙◌, ◌∷◌, ◌≡◌, ◌≢◌, ◌≤◌, ◌⊎◌, Bool, Err, IsTrue, List, Ok, Result, ap, append_assoc, arith, drop, eqb, false, get_or, inl, inr, length, lit<, map, max, nat_eq, refl, reverse, set, subst, suc, sym, take, true, w32, zero, ℕ, ⊎_elim}
pub use Rattle.call_graph.proofs.FlatLemmas.{part-distinct, part-functions}
pub use Rattle.capriccio_call.proofs.OneCase.{not-risen, not-rose}
pub use Rattle.command_words.proofs.Lists.{plain_is_no_option}
pub use Rattle.one_plan.proofs.Limits.{all-from-index}
pub use Rattle.std.proofs.ByRecursion.{All-append}
pub use Rattle.std.proofs.Math.ListN.{length-set}
pub use Rattle.std.proofs.lemmas.Bool.{cases_eq, cases_lt, eqb-false, eqb-true, false_from_ne_true, lt-ltb, ne_eqb, or_cases}
pub use Rattle.std.proofs.lemmas.List.{drop_all, get_or_past, length-append, length-drop, length-map, length-replicate, reverse-reverse, take_all, take_at}
pub use Rattle.std.proofs.lemmas.List.Elements.{All-from_recursion, recursion_from_All}
pub use Rattle.std.proofs.lemmas.List.Sorted.{All-permutation, IsPermutation-cons, IsPermutation-middle, IsPermutation-refl, IsPermutation-sym, IsPermutation-trans}
pub use Rattle.std.proofs.lemmas.List.Sums.{sum_by-cons}
pub use Rattle.std.proofs.lemmas.Map.Keys.{IsDistinct-head, IsDistinct-tail}
pub use Rattle.std.proofs.lemmas.Option.{none-some, same_Some, slice_get_past}
pub use Rattle.std.specs.Io.KnownBytes.{Appends}
pub use Rattle.std.specs.List.{All, AllByRecursion, IsDistinct, cons_option, filter_map, flat_map, range_with_len}
pub use Rattle.std.specs.List.Sorted.{IsPermutation, IsStrictlyIncreasing}
pub use Rattle.std.specs.Prelude.{None, Option, Some, codes, filter, if◌then◌else◌, min, negsuc, option_map, pos, replicate, slice_get, slice_index, sum_by, ℤ, ◌==◌, ◌≤ℤ◌}
pub use Rattle.analysis_lines.specs.Lines.{analysis_lines, name_at}
pub use Rattle.c_grammar.specs.Grammar.{AreArguments, AreItem, AreItems, AreLocals, AreMoreArguments, AreMoreGlobals, AreMoreLocals, AreMoreMembers, AreMoreNamed, AreMoreParameters, AreNamed, AreParameters, AreStmts, IsBinary, IsBlock, IsBody, IsExpr, IsForInit, IsForStep, IsGlobal, IsIndex, IsLocal, IsNameOption, IsParenthesized, IsPrimary, IsProgram, IsRepeated, IsResult, IsSimple, IsSize, IsStart, IsUnary, IsUpToSemicolon, PassesInfix, PassesPrefix, declared_before}
pub use Rattle.c_grammar.specs.Reading.{sign_at, signs_of}
pub use Rattle.c_grammar.specs.Rests.{Alternative, CanBeNothing, Nearest, Symbol, Takes, TakesAll, open_in}
pub use Rattle.c_grammar.specs.Signs.{IsOperator, IsPrefix, Level, Looser, Loosest, Tightest, sign_of_token}
pub use Rattle.c_grammar.specs.Tokens.{Passes, PassesName, PassesNumber, next_at, next_name, next_sign, rest_of}
pub use Rattle.c_grammar.specs.declared.errors.ParseError.{ParseError}
pub use Rattle.c_grammar.specs.declared.signs.Sign.{Sign}
pub use Rattle.c_hoist.proofs.EveryNested.{never, one_program}
pub use Rattle.c_hoist.specs.NestedText.{IsNestedSourceErrorOf, ReadsNested}
pub use Rattle.c_lex.proofs.MarkTable.{mark_place, mark_place-lt, mark_text-some}
pub use Rattle.c_lex.proofs.PieceLemmas.{IsWordFront, IsWordFront-word, bad_byte, bad_number, comment_gap, mark_token, space_gap, word_token}
pub use Rattle.c_lex.specs.Bytes.{is_white_space, is_word_byte}
pub use Rattle.c_lex.specs.Lexemes.{BeginsComment, IsOfKind, IsWord}
pub use Rattle.c_lex.specs.Marks.{BeginsWith, mark_text}
pub use Rattle.c_lex.specs.Pieces.{IsFirstGap, IsFirstToken}
pub use Rattle.c_lex.specs.Places.{StandInOrder}
pub use Rattle.c_lex.specs.Tokens.{AreTokensOf, BeginsNone, IsLexErrorOf, LeadsTo}
pub use Rattle.c_lex.specs.declared.keywords.Keyword.{Keyword}
pub use Rattle.c_lex.specs.declared.marks.Mark.{Mark}
pub use Rattle.c_lex.specs.declared.tokens.LexError.{LexError}
pub use Rattle.c_lex.specs.declared.tokens.LexError.TheVariants.{BadByte, BadNumber, OpenComment}
pub use Rattle.c_lex.specs.declared.tokens.Token.{Token}
pub use Rattle.c_lex.specs.declared.tokens.TokenKind.{TokenKind}
pub use Rattle.c_lower.proofs.FormedPrograms.{closing_size, program_formed}
pub use Rattle.c_lower.proofs.Sites.{program_permutes, sites_distinct}
pub use Rattle.c_lower.specs.ProgramCode.{closing_code, first_temporary, function_ops, function_sizes, lowered, lowered_function, lowered_global}
pub use Rattle.c_parse.proofs.ForWhole.{for_parts_none, for_parts_whole}
pub use Rattle.c_parse.proofs.NestedWhole.{items_none, items_whole}
pub use Rattle.c_parse.specs.ForParts.{nested_in_all_for, nested_in_for, nested_in_fors, nested_in_item_for}
pub use Rattle.c_parse.specs.NestedCalls.{earlier, first_call, first_call_of, nested_in_condition, nested_in_item, nested_in_items, nested_in_return, nested_in_simple, nested_in_simples, nested_in_step, nested_in_stmt, nested_in_stmts, nested_in_value}
pub use Rattle.c_parse.specs.Parsed.{IsParsedWhere, IsRefusedWhere}
pub use Rattle.c_tree.specs.RawTemporaries.{AreWithinTemporaries, raw_arguments_temporaries, raw_optional_temporaries, raw_simple_temporaries, raw_simples_temporaries, raw_step_temporaries, raw_stmt_temporaries, raw_stmts_temporaries, raw_temporaries}
pub use Rattle.c_tree.specs.RawTrees.{And, NameTree, NoExprs, NoRawStmts, RawBinary, RawBlock, RawBreak, RawCall, RawCalling, RawConditional, RawContinue, RawDeclareArray, RawDeclareScalar, RawDeclareWith, RawDo, RawElement, RawEmpty, RawExprTree, RawExprTrees, RawFor, RawFunctionItem, RawGlobal, RawGlobalArray, RawIf, RawIfElse, RawItemTree, RawLogicalAnd, RawLogicalOr, RawName, RawNumber, RawParenthesized, RawPrototypeItem, RawReturn, RawSet, RawSetElement, RawSimpleTree, RawStmtTree, RawStmtTrees, RawTableCall, RawTableCalling, RawTableItem, RawThen, RawUnary, RawWhile}
pub use Rattle.c_tree.specs.TextOrder.{program_sites}
pub use Rattle.c_tree.specs.Trees.{Binary, Block, CallFunction, CallModelled, CallSpawn, CallTable, CallTree, Called, Calling, Computed, Conditional, DeclareWith, Do, ExprTree, For, FunctionTree, GlobalElement, If, IfElse, LocalElement, LogicalAnd, LogicalOr, NoStmts, Parenthesized, ProgramTree, Return, RightTree, SetGlobal, SetGlobalElement, SetLocal, SetLocalElement, SimpleTree, StmtTree, StmtTrees, Then, Unary, While}
pub use Rattle.c_tree.specs.WellScoped.{AreFunctionsScoped, AreSiteNumbers, IsFunctionScoped, IsWellScoped}
pub use Rattle.c_tree.specs.declared.facts.GlobalFact.{GlobalFact}
pub use Rattle.c_tree.specs.declared.operators.Infix.{Infix}
pub use Rattle.c_tree.specs.declared.operators.UnaryOperator.{UnaryOperator}
pub use Rattle.call_cycles.proofs.OrderLemmas.{breaks, cycle-within, from-bottom, stands-all}
pub use Rattle.call_cycles.specs.Cycles.{Calls, IsLeast, IsOnCycle, IsWay, Reaches, functions_called}
pub use Rattle.call_cycles.specs.Orders.{IsFromBottom, IsGraph}
pub use Rattle.call_graph.proofs.ListLemmas.{all-at, by_test}
pub use Rattle.call_graph.specs.Callees.{greatest}
pub use Rattle.call_graph.specs.FlatCalls.{call_sites_from}
pub use Rattle.call_graph.specs.Graph.{CallGraphState, IsCallGraph, IsRising, IsSiteOf, function_count}
pub use Rattle.call_graph.specs.Lists.{has}
pub use Rattle.call_graph.specs.declared.sites.GraphSite.{GraphSite}
pub use Rattle.cap_io.specs.Files.{Files}
pub use Rattle.cap_text.specs.Decimals.{canonical_decimal}
unfoldable pub use Rattle.cap_text.specs.Decimals.{canonical_integer}
pub use Rattle.cap_text.specs.Pieces.{after_each, pieces}
pub use Rattle.cap_text.specs.TextLines.{ended_lines}
pub use Rattle.capriccio_call.proofs.OneRun.{IsInRange, areas-formed}
pub use Rattle.capriccio_call.specs.Due.{Does, IsDue}
pub use Rattle.capriccio_commands.specs.Demos.{Demos, ShowsRun, demo_policy, demo_sizes, shown_outcome}
pub use Rattle.certificate_rules.specs.Ranges.{AreApart, IsIn, Stands, word_at}
pub use Rattle.certificate_rules.specs.Sites.{NamesSites, callee_bound, callees_of, certified_site, fact_numbers, has_site, is_named, is_spawned, starts_thread}
pub use Rattle.certificate_rules.specs.Validity.{Holds, IsFirstFailure, IsValid}
pub use Rattle.certificate_text.specs.FirstRefused.{BreaksAfter, Chunk, Due, FunctionCount, Functions, IsAsSaid, IsFirstRefused, IsOver, MaxPath, Sites, Title}
pub use Rattle.certificate_text.specs.Text.{AreWords, HasFewPlaces, HoldsFunctionWords, HoldsKindWords, HoldsSiteWords, HoldsWords, IsAbove, IsWithinLimits, Rises, certificate_lines, chunk_line, function_line, function_numbers, functions_line, kind_fields, max_path_line, site_line, sites_line, title_line}
unfoldable pub use Rattle.certificate_text.specs.Text.{spelling}
pub use Rattle.checkpoint_place.specs.Refusal.{is_too_large, refusal_from}
pub use Rattle.checkpoint_place.specs.declared.plans.Plan.{Plan}
pub use Rattle.checkpoint_place.specs.declared.refusals.PlaceError.{PlaceError}
pub use Rattle.chunk_budget.proofs.LeastLemmas.{inside}
pub use Rattle.chunk_budget.specs.LeastBudgets.{IsLeastBudget}
pub use Rattle.codegen_link.proofs.AddressLemmas.{all-words, frame-holds, words-within}
pub use Rattle.codegen_link.proofs.FactLemmas.{fact-is, facts-count, is-for}
pub use Rattle.codegen_link.specs.Layout.{HasFacts, IsCertificateOf, IsImageOf, code_words, fact_of, function_code, function_words, functions_before, operations_before, places_from}
pub use Rattle.codegen_link.specs.Links.{link, linked_if, need, site_fact, site_facts}
pub use Rattle.codegen_link.specs.Plans.{AreInRange, IsPlanFor}
pub use Rattle.codegen_link.specs.declared.options.Options.{Options}
pub use Rattle.command_audit.specs.Audits.{Audits, AuditsBytes, AuditsProgram, judged_outcome, reading_of}
pub use Rattle.command_files.specs.Loaded.{IsLoaded}
pub use Rattle.command_files.specs.Loads.{AfterCertificate, AfterImage, AfterLoad, AfterSource, AfterThree, IsCertificateText, IsImageText, IsSourceText, OfFile}
pub use Rattle.command_options.proofs.Options.{build-sizes, run-policy, serve-policy, serve-pool, serve-sizes}
pub use Rattle.command_options.specs.Options.{IsRunPolicy, sizes_of}
pub use Rattle.command_outcomes.specs.CauseLines.{cycle_words, frame_words, most_bytes, refusal}
pub use Rattle.command_outcomes.specs.Done.{AreStored, IsDone, IsTold, IsWhole, NoFault, Outside, WhereTold, line_of, status_of}
pub use Rattle.command_outcomes.specs.FaultLines.{fault_status}
pub use Rattle.command_outcomes.specs.Outcome.{Outcome, printed, refused}
pub use Rattle.command_outcomes.specs.declared.documents.Document.{Document}
pub use Rattle.command_outcomes.specs.declared.faults.Fault.TheVariants.{Memory, Read, Write}
pub use Rattle.command_words.specs.Parse.{all_options}
pub use Rattle.command_words.specs.Said.{AreOnce, Given, IsOneOf, IsPlain, IsPlainSaid, Positional, Said, options_of, positionals_of, value_of, words_of}
pub use Rattle.command_words.specs.Values.{AreCaps, AreCapsAbove, AreTickets, AreTicketsFrom, IsAudit, IsChosen, IsNumber, IsNumberOf, IsPlacement, IsPolicy, IsRule, cap_text, caps_of, default_max_path, rule_name, ticket_text, tickets_of}
pub use Rattle.command_words.specs.WordList.{Audit, Budget, Build, Check, Demo, Graph, IsWordList, Request, Run, Says, Serve, audit_policy, placement_options, policy_options}
pub use Rattle.command_words.specs.declared.options.Placement.{Placement}
pub use Rattle.command_words.specs.declared.options.Policy.{Policy}
pub use Rattle.cycle_break.proofs.BottomUpLemmas.{whole_walk-up}
pub use Rattle.cycle_break.proofs.WalkLemmas.{whole_walk-is}
pub use Rattle.cycle_break.specs.BackEdges.{back_edges}
pub use Rattle.cycle_break.specs.BottomUp.{IsBottomUp}
pub use Rattle.cycle_break.specs.Walk.{whole_walk}
pub use Rattle.event_trace.specs.declared.events.Event.{Event}
pub use Rattle.flat_code.specs.Codes.{FlatCode, function_at, operation_at, site_of}
pub use Rattle.flat_code.specs.WellFormed.{IsWellFormed, site_numbers}
pub use Rattle.flat_code.specs.declared.functions.FlatFunction.{FlatFunction}
pub use Rattle.flat_code.specs.declared.operations.Op.{Op}
pub use Rattle.grammar_laws.proofs.Trees.{program_rises}
pub use Rattle.grammar_laws.specs.Nested.{IsFirstPlace, is_call, item_nested, items_nested, return_nested, simple_nested, simples_nested, step_nested, stmt_nested, stmts_nested, value_nested}
pub use Rattle.grammar_laws.specs.Places.{Declared, expr_places, exprs_places, item_places, items_places, names_places, optional_places, simple_places, simples_places, step_places, stmt_places, stmts_places}
pub use Rattle.hoist_parts.specs.Statements.{item_hoisted, items_hoisted}
pub use Rattle.lawful_log.specs.Setup.{Setup}
pub use Rattle.choice_rules.proofs.Deciding.{Below, all_below, all_decided, below_decided, bool_same, both_decided, decided_by, denied, either_decided, everywhere, le_decided, list_same, number_same, option_same, text_same}
pub use Rattle.lawful_reading.specs.declared.judgement.Judgement.{Judgement}
pub use Rattle.machine_meaning.proofs.Formed.{all_from, formed}
pub use Rattle.machine_meaning.proofs.Zeroes.{program_zeroes}
pub use Rattle.one_plan.proofs.LoweredGraph.{lowered-graph}
pub use Rattle.pair_commands.specs.Budgets.{Budgets, BudgetsBytes, BudgetsPair, budget_text}
pub use Rattle.pair_commands.specs.BuildsFiles.{Builds, BuildsProgram, HasFittingCode, IsUnbuilt, built, built_line}
pub use Rattle.pair_commands.specs.Checks.{Checks, ChecksBytes, ChecksPair, IsVerdict, verdict_outcome}
pub use Rattle.pair_commands.specs.Graphs.{Graphs, GraphsProgram, HasFittingFrames, IsAnalysed, IsFrameRefused, names_of}
pub use Rattle.pair_commands.specs.Runs.{IsAccepted, IsRun, Runs, RunsBytes, RunsOn, RunsPair, Serves, ServesProgram, pool_bytes, run_outcome, setup_of, stop_status}
pub use Rattle.pair_commands.specs.declared.check_command.Verdict.TheVariants.{Accepted, Rejected}
pub use Rattle.rv_code.specs.Table.{encoding}
pub use Rattle.rv_code.specs.declared.instructions.Instr.{Instr}
pub use Rattle.scope_rules.specs.Items.{Sofar, at_start, definitions, faults_of, has_main, item_after, items_after, program_of}
pub use Rattle.scope_rules.specs.Numbered.{IsResolvedBy, numbered}
pub use Rattle.scope_rules.specs.declared.errors.ScopeError.{ScopeError}
pub use Rattle.segment_laws.proofs.Past.{size_some}
pub use Rattle.stack_build.proofs.Plans.{plan-for}
pub use Rattle.stack_build.specs.Builds.{IsLaidOut, IsPlacedBy, IsPlanned, frame_refusal}
pub use Rattle.stack_build.specs.Refusals.{of_place}
pub use Rattle.stack_certificate.specs.Certificates.{fact_at}
pub use Rattle.stack_certificate.specs.Templates.{HasPlaces, begin, end_stub, kind_of, prologue, row_at, setting_at, size, template, words_before}
pub use Rattle.stack_certificate.specs.declared.certificates.Certificate.{Certificate}
pub use Rattle.stack_certificate.specs.declared.functions.FunctionFact.{FunctionFact}
pub use Rattle.stack_certificate.specs.declared.sites.LinkKind.{LinkKind}
pub use Rattle.stack_certificate.specs.declared.sites.SiteFact.{SiteFact}
pub use Rattle.stack_image.proofs.WordBytes.{IsBytes, length-words}
pub use Rattle.stack_image.specs.declared.images.Image.{Image}
pub use Rattle.stack_plan.proofs.Enough.{enough}
pub use Rattle.stack_plan.specs.Plans.{IsGraphOf, weights_of}
pub use Rattle.workload.specs.Programs.{program_text}
pub use Rattle.workload.specs.Traces.{channel_of}
unfoldable pub use Rattle.workload.specs.Traces.{arrival_line, lines_below, message_line, trace_text}
pub use Rattle.decisions.specs.Decided.{Decided}
pub use Rattle.decisions.specs.Given.{HasAnswered, HasBuildable, HasSource, HasValidPair}
pub use Rattle.decisions.specs.Looked.{IsGood, IsGoodTrace, LooksAt, LooksAtGoodLines, by_line, is_over}
pub use Rattle.decisions.specs.ReadAgain.{IsReadAgain}
pub use Rattle.decisions.specs.Told.{AreBytes, HoldBytes}
pub use Rattle.decisions.specs.Written.{EndsRun, IsRunStatus, UnlessMemory, WritesJudgement, WritesLog, WritesSummary, WritesText}
