-- The names that this crate's proofs cite from other crates and from its definitions, passed on from one place. Declares nothing.
pub use Rattle.std.proofs.Common.{[], ◌*◌, ◌++◌, ◌+◌, ◌/◌, ◌<◌, ◌∙◌, ◌∷◌, ◌≡◌, ◌≤◌, Bool, List, ap, arith, false, filter, get_or, inl, inr, length, length-append, map, max, nat_le, refl, slice_index, subst, suc, sym, true, zero, ℕ}
pub use Rattle.c_lower.proofs.FormedPrograms.{scalars_words, sum_both, temporary_word}
pub use Rattle.std.proofs.ByRecursion.{All-append, All-weaker}
pub use Rattle.std.proofs.lemmas.List.{length-map, length-replicate}
pub use Rattle.std.proofs.lemmas.List.Elements.{All-from_recursion, recursion_from_All}
pub use Rattle.std.proofs.lemmas.List.Sorted.{All-permutation, IsPermutation-sym, length_permutation}
pub use Rattle.std.specs.List.{AllByRecursion, cons_option, filter_map}
pub use Rattle.std.specs.List.Sorted.{IsPermutation, IsStrictlyIncreasing}
pub use Rattle.std.specs.Prelude.{None, Option, Some, flat_map, replicate, sum, ◌⊎◌}
pub use Rattle.c_lower.proofs.Lists.{map-map}
pub use Rattle.c_lower.specs.ProgramCode.{closing_code, first_temporary, function_sizes, lowered, lowered_function, lowered_global}
pub use Rattle.c_tree.specs.Sizes.{below, declared_words, scalars}
pub use Rattle.c_tree.specs.Temporaries.{function_temporaries}
pub use Rattle.c_tree.specs.Trees.{FunctionTree, ProgramTree}
pub use Rattle.c_tree.specs.WellScoped.{AreFunctionsScoped, IsFunctionScoped, IsWellScoped, context_of}
pub use Rattle.call_graph.proofs.ListLemmas.{all-at, by_test}
pub use Rattle.call_graph.specs.FlatCalls.{call_site, call_sites_from}
pub use Rattle.call_graph.specs.Graph.{CallGraphState, IsCallGraph, IsRising, IsSiteOf, IsTargetOf, function_count}
pub use Rattle.call_graph.specs.declared.sites.GraphSite.{GraphSite}
pub use Rattle.checkpoint_place.specs.declared.plans.Plan.{Plan}
pub use Rattle.flat_code.specs.Codes.{FlatCode, function_at, site_of}
pub use Rattle.flat_code.specs.Weight.{weight_of}
pub use Rattle.flat_code.specs.WellFormed.{IsOperation, site_numbers}
pub use Rattle.flat_code.specs.declared.functions.FlatFunction.{FlatFunction}
pub use Rattle.flat_code.specs.declared.operations.Op.{Op}
pub use Rattle.stack_plan.specs.Plans.{IsGraphOf}
