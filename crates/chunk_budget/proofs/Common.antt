-- The names that this crate's proofs cite from other crates and from its definitions, passed on from one place. Declares nothing.
pub use Rattle.std.proofs.Common.{[], ◌+◌, ◌-◌, ◌<◌, ◌∙◌, ◌∷◌, ◌≡◌, ◌≢◌, ◌≤◌, ◌⊎◌, List, add-one, ap, arith, drop, drop-cons, false, get_or, inl, inr, leb-false, leb-true, length, max, min, refl, replicate, set, subst, suc, sym, true, vec_len, zero, ℕ, ⊎_elim}
pub use Rattle.std.proofs.lemmas.Bool.{cases_lt, le-ltb, ltb-false}
pub use Rattle.std.proofs.lemmas.Grind.{common_steps}
pub use Rattle.std.proofs.lemmas.List.{get_or-set_other, get_or-set_same, get_or_past, get_or_read, length-map}
pub use Rattle.std.proofs.lemmas.Option.{get_or_from_slice_get, none-some, same_Some, slice_get_within}
pub use Rattle.std.specs.List.{AllByRecursion}
pub use Rattle.std.specs.Prelude.{None, Option, Some, map, nat_le, nat_lt, slice_get, slice_index, slice_index_or}
pub use Rattle.call_cycles.specs.Cycles.{Calls, IsLeast, IsLeastOf, functions_called}
pub use Rattle.call_graph.proofs.ListLemmas.{all-at, by_test}
pub use Rattle.call_graph.specs.Callees.{greatest}
pub use Rattle.flat_code.specs.Codes.{FlatCode, function_at, members_of, operation_at}
pub use Rattle.flat_code.specs.ProgramView.{program_code}
pub use Rattle.flat_code.specs.WellFormed.{IsFunction, IsOperation, IsWellFormed, context_of, signature_of}
pub use Rattle.flat_code.specs.declared.operations.Op.{Op}
pub use Rattle.stack_certificate.specs.Templates.{kind_of}
pub use Rattle.stack_certificate.specs.declared.certificates.Certificate.{Certificate}
pub use Rattle.chunk_budget.specs.Budgets.{AreCovered, IsBudget, IsCovered, IsHighRoot, IsLow, IsRefusal, IsRoot, IsSpawned, chunks_added, height_of}
pub use Rattle.chunk_budget.specs.Known.{IsKnown, IsRight}
pub use Rattle.chunk_budget.specs.Least.{least_below, least_in, lesser}
pub use Rattle.chunk_budget.specs.Made.{greatest_below, height_asked, height_spawned}
pub use Rattle.chunk_budget.specs.Tests.{high_function, high_root, highest, low_site, unless}
pub use Rattle.chunk_budget.specs.declared.budgets.Budget.{Budget}
