-- The names that this crate's proofs cite from other crates and from its definitions, passed on from one place. Declares nothing.
pub use Rattle.std.proofs.Common.{[], ◌%◌, ◌&&◌, ◌*◌, ◌++◌, ◌+◌, ◌-◌, ◌/◌, ◌<◌, ◌==◌, ◌||◌, ◌∙◌, ◌∷◌, ◌≡◌, ◌≢◌, ◌≤◌, ◌⊎◌, Bool, List, None, Option, Some, ap, arith, bit_and, bit_or, cond, false, filter, inl, inr, length, max, min, nat_le, nat_lt, not, position, refl, rules, slice_index, slice_set, subst, suc, sym, take, true, zero, ℕ, ⊎_elim}
pub use Rattle.std.proofs.lemmas.Bool.{and_parts, or_left, or_right}
pub use Rattle.std.proofs.lemmas.Bool.Decides.{nat_tests}
pub use Rattle.std.proofs.lemmas.List.{get_or-set_other, get_or-set_same, length-append, length-set, length_push, take_more}
pub use Rattle.ready_tree.specs.Entries.{entries_of, is_taken, may_go, place_at}
pub use Rattle.ready_tree.specs.NeedTrees.{AreJoinedIf, needs_of}
pub use Rattle.ready_tree.specs.Needs.{IsJoin, is_same_need, is_shared}
unfoldable pub use Rattle.ready_tree.specs.Needs.{fits_first, is_some_met}
pub use Rattle.ready_tree.specs.Next.{IsNextLeaf, IsNextSubtree, IsReached, NoneBetween}
pub use Rattle.ready_tree.specs.Nodes.{AreJoined, AreJoinedBut, IsLevel, IsNode, IsWhole, no_needs, node_at}
unfoldable pub use Rattle.ready_tree.specs.Nodes.{doubled}
pub use Rattle.ready_tree.specs.Trees.{Covers, CoversAll, HasPlaces, HasRoom, IsAbove, IsAboveIf}
pub use Rattle.ready_tree.specs.declared.bounds.Bounds.{Bounds}
pub use Rattle.ready_tree.specs.declared.entries.Entry.{Entry}
pub use Rattle.ready_tree.specs.declared.needs.Needs.{Needs}
