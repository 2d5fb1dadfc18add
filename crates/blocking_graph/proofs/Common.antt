-- The names that this crate's proofs cite from other crates and from its definitions, passed on from one place. Declares nothing.
pub use Rattle.std.proofs.Common.{[], ◌&&◌, ◌*ℤ◌, ◌*◌, ◌++◌, ◌+ℤ◌, ◌+◌, ◌-ℤ◌, ◌<◌, ◌==◌, ◌^◌, ◌∙◌, ◌∷◌, ◌≡◌, ◌≢◌, ◌≤◌, Bool, Err, FitsSigned, IfSome, IsOk, IsTrue, List, None, Ok, OnOk, Option, Result, Some, ap, arith, below_more, cond, false, fold, get_or, get_or-set_other, get_or-set_same, length, length-set, map, negsuc, not, of_z, pos, refl, rules, set, subst, suc, sym, to_z, true, unsigned_abs, w64, zero, ℕ, ℤ, ⊎_elim}
pub use Rattle.std.proofs.Math.Nat.{div-le_of_le-mul, div-le_self}
pub use Rattle.std.proofs.lemmas.Bool.Decides.{nat_tests}
pub use Rattle.std.proofs.lemmas.Int.{fits_signed_from_abs, fits_signed_mul, ints, to_z-of_z, unsigned_abs-mul}
pub use Rattle.std.proofs.lemmas.List.{append-nil, append_assoc, get_or-map, length-map}
pub use Rattle.std.proofs.lemmas.List.Elements.{All-from_recursion, All-map, filter-append, recursion_from_All}
pub use Rattle.std.specs.BTreeMap.{BTreeMap, Updates, get, is_at}
pub use Rattle.std.specs.Int.{int_div_euclid, w128}
pub use Rattle.std.specs.List.{AllByRecursion, insert, position_or_len}
pub use Rattle.std.specs.Ordering.{nat_cmp}
pub use Rattle.blocking_graph.specs.Averages.{first_average, floor_div, next_average, next_averages}
pub use Rattle.blocking_graph.specs.Edges.{count_of, edges_from, edges_of, edges_with, first_edge, is_before, is_of, next_edge, weighted_change, with_weight}
pub use Rattle.blocking_graph.specs.Graph.{GraphState, IsEdge, IsGraph, IsRising, IsSegment, precedes}
pub use Rattle.blocking_graph.specs.Pairs.{HasEight, IsEdgeOf, TellsOf, average_of, edge_between, records_of}
pub use Rattle.blocking_graph.specs.Sums.{AreSumsOf, IsKeptOf, IsMoved, IsSumOf, edge_after, weight, weight_or_0}
pub use Rattle.blocking_graph.specs.declared.edges.EdgeLine.{EdgeLine}
pub use Rattle.blocking_graph.specs.declared.segments.SegmentRecord.{SegmentRecord}
pub use Rattle.blocking_graph.specs.declared.sums.NodeSums.{NodeSums}
