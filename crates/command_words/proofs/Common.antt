-- The names that this crate's proofs cite from other crates and from its definitions, passed on from one place. Declares nothing.
pub use Rattle.std.proofs.Common.{[], ◌%◌, ◌&&◌, ◌*◌, ◌++◌, ◌+◌, ◌-◌, ◌<◌, ◌==◌, ◌||◌, ◌↔◌, ◌∙◌, ◌∷◌, ◌≡◌, ◌≢◌, ◌≤◌, ◌⊎◌, Bool, Err, IfNone, List, None, Option, Some, ap, append-nil, append_assoc, ap₂, arith, cond, drop, false, get_or, inl, inr, length, map, refl, replicate, slice_set, subst, suc, sym, take, true, true≢false, zero, ℕ}
pub use Rattle.std.proofs.lemmas.Bool.{and_parts, ne_eqb, not-true}
pub use Rattle.std.proofs.lemmas.Bool.Decides.{Decides-eqb}
pub use Rattle.std.proofs.lemmas.List.{map-append, take_all}
pub use Rattle.std.proofs.lemmas.Slice.Eq.{bytes_eq-Decides, strip_prefix_is}
pub use Rattle.std.specs.List.{AllByRecursion, flat_map, slice_get}
pub use Rattle.std.specs.Prelude.{codes, fold, is_some, not, ⊤}
pub use Rattle.std.specs.Str.{bytes_eq}
pub use Rattle.std.specs.String.{string_bytes}
pub use Rattle.cap_text.proofs.DecimalLaws.{FieldEnds, decimal_field, decimal_unique}
unfoldable pub use Rattle.cap_text.specs.Decimals.{canonical_decimal}
pub use Rattle.cap_text.specs.Pieces.{after_each, pieces}
unfoldable pub use Rattle.clap.proofs.OnLiterals.{clap_on_literals}
pub use Rattle.clap.specs.Faults.{built_fault, check_fault, default_fault, entered_fault, fault_of, is_simple_and_free, level_fault, settle_fault, turn_fault}
unfoldable pub use Rattle.clap.specs.Faults.{defaults_fault, walk_fault}
pub use Rattle.clap.specs.Kinds.{HasKind, Kinds, or_else}
pub use Rattle.clap.specs.Lexer.{long_of, short_of}
pub use Rattle.clap.specs.Simple.{App, Shape, app_of, built, new_rule, with_rule}
pub use Rattle.clap.specs.Walk.{Held, Row, Rule, Text, Walk, arg_by_id, arg_by_index, arg_by_long, at_row, default_rows, finished, first_of, has_row, idle, is_pending, more_values, next_position, nothing_held, option, reading_by, rows_after, rule_of, settled_rows, walk, walk_from, with_default, with_values, without}
unfoldable pub use Rattle.clap.specs.Walk.{walked}
pub use Rattle.clap.specs.Words.{first_value, found_of}
pub use Rattle.clap.specs.declared.builder.command.Command.{Command}
pub use Rattle.command_words.specs.Asked.{HasOne, HasThree, HasTwo, IsAsked, LacksAll, Texts}
pub use Rattle.command_words.specs.OptionTable.{all_table, default_of, least_of, long_name_of, most_of, name_of, names_of}
pub use Rattle.command_words.specs.Parse.{IsReadAs, IsReadable, IsSaid, IsWord, Tells, all_options, command_names, option_rule, with_option, with_place, words_app}
pub use Rattle.command_words.specs.Said.{AreOnce, Given, IsOneOf, IsPlain, IsPlainSaid, Positional, Said, options_of, positionals_of, value_of, words_of}
pub use Rattle.command_words.specs.Values.{AreCaps, AreCapsAbove, AreTickets, AreTicketsFrom, IsAudit, IsCapsText, IsChosen, IsNumber, IsNumberOf, IsPlacement, IsPolicy, IsRule, IsTicketsText, cap_of, cap_text, caps_of, default_max_path, rule_name, ticket_text, tickets_of}
pub use Rattle.command_words.specs.WordList.{Audit, Budget, Build, Check, Demo, Graph, IsWordList, Request, Run, Says, Serve, audit_options, audit_policy, placement_options, policy_options, request_of, run_options}
pub use Rattle.command_words.specs.declared.option_table.CommandOption.{CommandOption}
pub use Rattle.command_words.specs.declared.options.Placement.{Placement}
pub use Rattle.command_words.specs.declared.options.Policy.{Policy}
pub use Rattle.command_words.specs.declared.options.Tickets.{Tickets}
pub use mathlib.Core.Bool.{or-true}
