-- The names that this crate's proofs cite from other crates and from its definitions, passed on from one place. Declares nothing.
pub use Rattle.call_graph.proofs.FlatLemmas.{eqb-flips}
pub use Rattle.std.proofs.Common.{[], ◌%◌, ◌*◌, ◌++◌, ◌+◌, ◌-◌, ◌/◌, ◌<◌, ◌^◌, ◌∙◌, ◌∷◌, ◌≡◌, ◌≤◌, ◌⊎◌, Bool, List, None, Option, Some, add-one, ap, append_assoc, arith, drop, false, get_or, inl, inr, length, length-append, map, max, negsuc, pos, refl, replicate, rules, subst, suc, sym, take, true, zero, ℕ}
pub use Rattle.std.proofs.lemmas.Bool.{cases_lt}
pub use Rattle.std.proofs.lemmas.Bool.Decides.{nat_tests}
pub use Rattle.std.proofs.lemmas.Int.{ints}
pub use Rattle.std.proofs.lemmas.List.{at_drop_more, get_or-map, length-map, length-replicate, length-take, map-append, map_more, take-take, take_all, take_more}
pub use Rattle.std.proofs.lemmas.List.Elements.{All-from_recursion, filter_map-append, recursion_from_All}
pub use Rattle.std.proofs.lemmas.List.Folds.{list_any-append}
pub use Rattle.std.proofs.lemmas.List.FromFn.{get_or-map-range_with_len, length-map-range_with_len}
pub use Rattle.std.proofs.lemmas.List.Sorted.{All-permutation, Contains-permutation, IsNonDecreasingBy-from_sort_by_key, IsPermutation-map, list_any-IsPermutation}
pub use Rattle.std.proofs.lemmas.List.Sums.{sum_by-cons, sum_by-take-le, sum_by_more}
pub use Rattle.std.proofs.lemmas.Map.Keys.{any_passes_from_place}
pub use Rattle.std.proofs.lemmas.Option.{get_or_from_slice_get, slice_get-get_or, slice_get-map, slice_get_within}
pub use Rattle.std.specs.List.{AllByRecursion, IsDistinct, cons_option, list_any, range_with_len}
pub use Rattle.std.specs.List.Sorted.{IsNonDecreasing, IsNonDecreasingBy, IsPermutation, IsStrictlyIncreasing}
pub use Rattle.std.specs.Prelude.{Contains, IsSome, eqb, filter_map, flat_map, min, nat_eq, option_map, slice_get, slice_index, slice_index_or, sum, sum_by, ◌-ℤ◌, ◌||◌}
pub use Rattle.call_graph.specs.Callees.{greatest}
pub use Rattle.certificate_rules.specs.Ranges.{AreApart, Stands}
pub use Rattle.certificate_rules.specs.Rules.{IsNeed, IsPlaced, V1, V10, V11, V12, V2, V3, V4, V5, V6, V7, V8, V9}
pub use Rattle.certificate_rules.specs.Sites.{NamesSites, callee_bound, callees_of, certified_site, greatest_bound, has_site, is_named, is_site, is_spawned, starts_thread}
pub use Rattle.checkpoint_place.specs.declared.plans.Plan.{Plan}
pub use Rattle.flat_code.specs.Codes.{FlatCode, function_at, members_of, operation_at, site_of}
pub use Rattle.flat_code.specs.ProgramView.{program_code}
pub use Rattle.flat_code.specs.Weight.{weight_of}
pub use Rattle.flat_code.specs.WellFormed.{IsOperation, IsWellFormed, context_of, signature_of}
pub use Rattle.flat_code.specs.declared.functions.FlatFunction.{FlatFunction}
pub use Rattle.flat_code.specs.declared.operations.Op.{Op}
unfoldable pub use Rattle.rv_code.specs.Operands.{IsInRange}
pub use Rattle.rv_code.specs.Table.{encoding}
pub use Rattle.rv_code.specs.declared.instructions.Instr.{Instr}
pub use Rattle.stack_certificate.proofs.AddressLemmas.{words_step}
pub use Rattle.stack_certificate.proofs.PlaceLemmas.{all_at, function_formed, operation_formed, operation_places}
pub use Rattle.stack_certificate.proofs.PushedLemmas.{flat-pushed, map-pushed, numbered-pushed}
pub use Rattle.stack_certificate.proofs.SizeLemmas.{length-prologue, length-row}
pub use Rattle.stack_certificate.specs.Certificates.{fact_at, global_address, kind_in, kind_or, need_of, table_address}
pub use Rattle.stack_certificate.specs.InstructionWords.{IsWordOf}
pub use Rattle.stack_certificate.specs.Parts.{arguments, call_instruction, epilogue, guard, jump, li, load, lower_part, middle, result, saves, store, system_call, transfer, upper_part, zeroes}
pub use Rattle.stack_certificate.specs.Places.{HavePlaces}
pub use Rattle.stack_certificate.specs.Registers.{a0, a1, a2, a7, ra, sp, t0, t1, t2, tp, zero_}
pub use Rattle.stack_certificate.specs.Templates.{HasPlaces, IsFor, begin, end_stub, goes_to, kind_of, named_address, named_count, named_entry, prologue, row, row_at, setting, setting_at, size, size_at, template, words_before}
pub use Rattle.stack_certificate.specs.declared.certificates.Certificate.{Certificate}
pub use Rattle.stack_certificate.specs.declared.functions.FunctionFact.{FunctionFact}
pub use Rattle.stack_certificate.specs.declared.settings.Setting.{Setting}
pub use Rattle.stack_certificate.specs.declared.sites.LinkKind.{LinkKind}
pub use Rattle.stack_certificate.specs.declared.sites.SiteFact.{SiteFact}
pub use Rattle.stack_image.specs.declared.images.Image.{Image}
pub use Rattle.codegen_link.specs.Emission.{JumpsInside, NamesThere, entry_in, target_in}
pub use Rattle.codegen_link.specs.Layout.{HasFacts, IsCertificateOf, IsImageOf, code_words, fact_of, function_code, function_words, functions_before, operations_before, places_from, words_to}
pub use Rattle.codegen_link.specs.Links.{link, linked_if, need, site_fact, site_facts}
pub use Rattle.codegen_link.specs.Plans.{AreInRange, IsPlanFor}
