-- The names that this crate's proofs cite from other crates and from its definitions, passed on from one place. Declares nothing.
pub use Rattle.std.proofs.Common.{[], ◌&&◌, ◌++◌, ◌+◌, ◌-◌, ◌<◌, ◌==◌, ◌^◌, ◌∙◌, ◌∷◌, ◌≡◌, ◌≢◌, ◌≤◌, Bool, Err, List, Ok, Result, ap, arith, drop, false, get_or, length, map, not, refl, rules, set, subst, suc, sym, take, true, zero, ℕ}
pub use Rattle.std.proofs.ByRecursion.{All-append, All-weaker}
pub use Rattle.std.proofs.lemmas.Bool.Decides.{nat_tests}
pub use Rattle.std.proofs.lemmas.List.{drop_more, get_or-map, get_or-set_other, get_or-set_same, get_or_default, get_or_read, length-map, length-set}
pub use Rattle.std.proofs.lemmas.List.Elements.{All-from_recursion, filter_map-append, recursion_from_All}
pub use Rattle.std.proofs.lemmas.List.Kept.{AllPairs-from_increasing}
pub use Rattle.std.proofs.lemmas.List.Sorted.{All-permutation, IsNonDecreasingBy-from_sort_by_key, IsPermutation-map, searched}
pub use Rattle.std.specs.List.{AllByRecursion, IsDistinct, cons_option, filter_map, flat_map}
pub use Rattle.std.specs.List.Sorted.{IsBinarySearchResult, IsNonDecreasing, IsNonDecreasingBy, IsPermutation, IsStrictlyIncreasing}
pub use Rattle.std.specs.Prelude.{eqb, is_ok}
pub use Rattle.call_graph.specs.FlatCalls.{call_site, call_sites_from}
pub use Rattle.call_graph.specs.Lists.{has}
pub use Rattle.call_graph.specs.declared.sites.GraphSite.{GraphSite}
pub use Rattle.call_graph.specs.declared.sites.Target.TheVariants.{Function, Table}
