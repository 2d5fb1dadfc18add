-- The tree: a changed node concerns the one above it alone.
use Rattle.ready_tree.proofs.Common.{◌≡◌, ◌≢◌, ℕ, zero, suc, ◌+◌, ◌*◌, ◌/◌, ◌<◌, ◌≤◌, ◌⊎◌, inl, inr, Bool, true, false, ◌||◌, List, length, refl, arith, slice_set, get_or-set_same, get_or-set_other, length-set, Bounds, Needs, is_some_met, IsJoin, doubled, IsLevel, IsWhole, IsNode, AreJoinedBut, node_at, no_needs}

-- ---- levels

pub doubled_more : (times n : ℕ) → doubled times (2 * n) ≡ 2 * doubled times n
unfolding doubled
doubled_more zero n = refl
doubled_more (suc times) n = doubled_more times (2 * n)

pub doubled_least : (times n : ℕ) → n ≤ doubled times n
unfolding doubled
doubled_least zero n = omega arith
doubled_least (suc times) n = let h : 2 * n ≤ doubled times (2 * n) = doubled_least times (2 * n) in omega arith

-- twice as many leaves
pub more_leaves : (leaves : ℕ) → IsLevel leaves 1 → IsLevel (leaves * 2) 1
unfolding doubled
more_leaves leaves level = record {
  above = suc level.above;
  same = let e : leaves ≡ doubled level.above 1 = level.same in let d : doubled level.above (2 * 1) ≡ 2 * doubled level.above 1 = doubled_more level.above 1 in omega arith;
}

pub one_leaf : IsLevel 1 1
unfolding doubled
one_leaf = record { above = 0; same = refl }

-- ---- a search

or_none_left : (a b c : Bool) → c ≡ (a || b) → c ≡ false → a ≡ false
or_none_left true b c e n = absurd (cc)
or_none_left false b c e n = refl

or_none_right : (a b c : Bool) → c ≡ (a || b) → c ≡ false → b ≡ false
or_none_right true b c e n = absurd (cc)
or_none_right false b c e n = cc

-- what isn't met above isn't met below
pub none_below : (bounds : Bounds) (nodes : List Needs) (i j : ℕ) → IsNode nodes i → (j ≡ 2 * i) ⊎ (j ≡ 2 * i + 1) →
    is_some_met bounds (node_at nodes i) ≡ false → is_some_met bounds (node_at nodes j) ≡ false
none_below bounds nodes i j is (inl e) none =
    rw e (or_none_left (is_some_met bounds (node_at nodes (2 * i))) (is_some_met bounds (node_at nodes (2 * i + 1))) (is_some_met bounds (node_at nodes i)) (is.met bounds) none)
none_below bounds nodes i j is (inr e) none =
    rw e (or_none_right (is_some_met bounds (node_at nodes (2 * i))) (is_some_met bounds (node_at nodes (2 * i + 1))) (is_some_met bounds (node_at nodes i)) (is.met bounds) none)

-- ---- a change

pub whole_set : (nodes : List Needs) (i : ℕ) (value : Needs) → IsWhole nodes → IsWhole (slice_set nodes i value)
whole_set nodes i value w = record {
  some = rw (length-set nodes i value) w.some;
  even = rw (length-set nodes i value) w.even;
  level = rw (length-set nodes i value) w.level;
}

set_node : (nodes : List Needs) (n : ℕ) (value : Needs) → AreJoinedBut nodes n → IsJoin value (node_at nodes (2 * n)) (node_at nodes (2 * n + 1)) →
    1 ≤ n → n < length nodes / 2 → (i : ℕ) → 1 ≤ i → i < length nodes / 2 → i ≢ n / 2 → (i ≡ n) ⊎ (i ≢ n) → IsNode (slice_set nodes n value) i
set_node nodes n value a v some below i some_i below_i other (inl e) =
    rw e (rw (get_or-set_same nodes n value no_needs (omega arith), get_or-set_other nodes n (2 * n) value no_needs (λ e. absurd (omega arith)), get_or-set_other nodes n (2 * n + 1) value no_needs (λ e. absurd (omega arith))) v)
set_node nodes n value a v some below i some_i below_i other (inr d) =
    rw (get_or-set_other nodes n i value no_needs d, get_or-set_other nodes n (2 * i) value no_needs (λ e. other (omega arith)), get_or-set_other nodes n (2 * i + 1) value no_needs (λ e. other (omega arith)))
    (a.node i some_i below_i d)

pub same_or_not : (i n : ℕ) → (i ≡ n) ⊎ (i ≢ n)
same_or_not i n = grind arith

-- where the excepted node is set to the join of its children, the one above it is excepted
pub step_up : (nodes : List Needs) (n : ℕ) (value : Needs) → AreJoinedBut nodes n → IsJoin value (node_at nodes (2 * n)) (node_at nodes (2 * n + 1)) →
    1 ≤ n → n < length nodes / 2 → AreJoinedBut (slice_set nodes n value) (n / 2)
step_up nodes n value a v some below = record {
  whole = whole_set nodes n value a.whole;
  node = λ i some_i below_i other. set_node nodes n value a v some below i some_i (rw (length-set nodes n value) at below_i) other (same_or_not i n);
}
