-- The search for the next leaf climbs past subtrees in which no need is met, and goes down from the first in which one is.
use Rattle.std.proofs.lemmas.Bool.{cases_lt}
use Rattle.ready_tree.proofs.Common.{◌≡◌, ℕ, zero, suc, ◌+◌, ◌*◌, ◌/◌, ◌%◌, ◌<◌, ◌≤◌, inl, inr, ⊎_elim, false, Some, None, List, length, refl, ◌∙◌, ap, subst, arith, Bounds, Needs, is_some_met, NoneBetween, IsReached, IsNextLeaf, IsNextSubtree, doubled, AreJoined, IsLevel, node_at}
use Rattle.ready_tree.specs.declared.subtrees.Subtree.{Subtree}
use Rattle.ready_tree.proofs.NodeLaws.{doubled_least, doubled_more, more_leaves, none_below, one_leaf}

doubled_mono : (times m n : ℕ) → m ≤ n → doubled times m ≤ doubled times n
unfolding doubled
doubled_mono zero m n h = h
doubled_mono (suc times) m n h = doubled_mono times (2 * m) (2 * n) (omega arith)

-- a level of a tree that isn't the first has an even number of nodes
pub record IsHalved (level : ℕ) : Type 0 where
  pub even : level ≡ 2 * (level / 2)
  pub power : IsLevel (level / 2) 1

halved_at : (level above : ℕ) → 2 ≤ level → level ≡ doubled above 1 → IsHalved level
unfolding doubled
halved_at level zero some same = absurd (omega arith)
halved_at level (suc above) some same =
    let twice : doubled above (2 * 1) ≡ 2 * doubled above 1 = doubled_more above 1 in
    let e : level ≡ doubled above (2 * 1) = same in
    record { even = omega arith; power = record { above = above; same = omega arith } }

pub halved : (level : ℕ) → 2 ≤ level → IsLevel level 1 → IsHalved level
halved level some power = halved_at level power.above some power.same

module _ (bounds : Bounds) (nodes : List Needs) (joined : AreJoined nodes) where
  -- what isn't met above isn't met at any leaf below
  pub unmet_below : (above node leaf : ℕ) → 1 ≤ node → doubled above (node + 1) ≤ length nodes → doubled above node ≤ leaf → leaf < doubled above (node + 1) →
      is_some_met bounds (node_at nodes node) ≡ false → is_some_met bounds (node_at nodes leaf) ≡ false
  unfolding doubled
  unmet_below zero node leaf some fits lo hi none = let e : leaf ≡ node = omega arith in rw e none
  unmet_below (suc above) node leaf some fits lo hi none =
      let h : doubled above (2 * (node + 1)) ≤ length nodes = fits in
      let hi2 : leaf < doubled above (2 * (node + 1)) = hi in
      let lo2 : doubled above (2 * node) ≤ leaf = lo in
      let least : 2 * (node + 1) ≤ doubled above (2 * (node + 1)) = doubled_least above (2 * (node + 1)) in
      let below : node < length nodes / 2 = omega arith in
      let next : 2 * node + 1 + 1 ≡ 2 * (node + 1) = omega arith in
      let end : doubled above (2 * node + 1 + 1) ≡ doubled above (2 * (node + 1)) = ap (doubled above) next in
      let mid : doubled above (2 * node + 1) ≤ doubled above (2 * (node + 1)) = doubled_mono above (2 * node + 1) (2 * (node + 1)) (omega arith) in
      let left : is_some_met bounds (node_at nodes (2 * node)) ≡ false = none_below bounds nodes node (2 * node) (joined.node node some below) (inl refl) none in
      let right : is_some_met bounds (node_at nodes (2 * node + 1)) ≡ false = none_below bounds nodes node (2 * node + 1) (joined.node node some below) (inr refl) none in
      ⊎_elim
      (λ (first : leaf < doubled above (2 * node + 1)). unmet_below above (2 * node) leaf (omega arith) (omega arith) lo2 first left)
      (λ (second : doubled above (2 * node + 1) ≤ leaf). unmet_below above (2 * node + 1) leaf (omega arith) (omega arith) second (omega arith) right)
      (cases_lt leaf (doubled above (2 * node + 1)))

  -- no need is met before the subtree to the right of one in which none is
  pub past_unmet : (first above node : ℕ) → 1 ≤ node → doubled above (node + 1) ≤ length nodes → NoneBetween bounds nodes first (doubled above node) →
      is_some_met bounds (node_at nodes node) ≡ false → NoneBetween bounds nodes first (doubled above (node + 1))
  past_unmet first above node some fits before none = record {
    none = λ leaf from to. ⊎_elim
        (λ (h : leaf < doubled above node). before.none leaf from h)
        (λ (h : doubled above node ≤ leaf). unmet_below above node leaf some fits h to none)
        (cases_lt leaf (doubled above node));
  }

  -- the subtrees of a level end with the leaves
  pub level_fits : (above level node : ℕ) → length nodes / 2 ≡ doubled above level → node ≤ 2 * level → doubled above node ≤ length nodes
  level_fits above level node leaves to =
      let even : length nodes ≡ 2 * (length nodes / 2) = joined.whole.even in
      let all : doubled above (2 * level) ≡ 2 * doubled above level = doubled_more above level in
      let h : doubled above node ≤ doubled above (2 * level) = doubled_mono above node (2 * level) to in
      omega arith

  -- the subtree to the right, where there is one
  pub reached_right : (subtree : Subtree) → IsReached bounds nodes subtree → subtree.node + 1 < 2 * subtree.level → is_some_met bounds (node_at nodes subtree.node) ≡ false →
      IsReached bounds nodes (record subtree { node = subtree.node + 1 })
  reached_right subtree is room none =
      let fits : doubled is.above (subtree.node + 1) ≤ length nodes = level_fits is.above subtree.level (subtree.node + 1) is.leaves (let h : subtree.node + 1 < 2 * subtree.level = room in omega arith) in
      record {
        above = is.above;
        leaves = is.leaves;
        power = is.power;
        some = is.some;
        from = let h : subtree.level ≤ subtree.node = is.from in omega arith;
        to = room;
        at = let h : subtree.first ≤ doubled is.above subtree.node = is.at in let m : doubled is.above subtree.node ≤ doubled is.above (subtree.node + 1) = doubled_mono is.above subtree.node (subtree.node + 1) (omega arith) in omega arith;
        before = past_unmet subtree.first is.above subtree.node (let h : subtree.level ≤ subtree.node = is.from in let s : 1 ≤ subtree.level = is.some in omega arith) fits is.before none;
      }

  -- the last subtree of its level in which no need is met
  pub reached_end : (subtree : Subtree) → IsReached bounds nodes subtree → subtree.node + 1 ≡ 2 * subtree.level → is_some_met bounds (node_at nodes subtree.node) ≡ false →
      NoneBetween bounds nodes subtree.first (length nodes)
  reached_end subtree is last none =
      let fits : doubled is.above (subtree.node + 1) ≤ length nodes = level_fits is.above subtree.level (subtree.node + 1) is.leaves (omega arith) in
      let even : length nodes ≡ 2 * (length nodes / 2) = joined.whole.even in
      let leaves : length nodes / 2 ≡ doubled is.above subtree.level = is.leaves in
      let end : doubled is.above (subtree.node + 1) ≡ 2 * doubled is.above subtree.level = ap (doubled is.above) last ∙ doubled_more is.above subtree.level in
      let all : doubled is.above (subtree.node + 1) ≡ length nodes = omega arith in
      subst (λ (to : ℕ). NoneBetween bounds nodes subtree.first to) all
      (past_unmet subtree.first is.above subtree.node (let h : subtree.level ≤ subtree.node = is.from in let s : 1 ≤ subtree.level = is.some in omega arith) fits is.before none)

  -- the subtree above one that is its first half
  pub reached_up : (subtree : Subtree) → IsReached bounds nodes subtree → IsHalved subtree.level → subtree.node ≡ 2 * (subtree.node / 2) →
      IsReached bounds nodes (record subtree { level = subtree.level / 2; node = subtree.node / 2 })
  unfolding doubled
  reached_up subtree is half even =
      let level_even : subtree.level ≡ 2 * (subtree.level / 2) = half.even in
      let same : doubled is.above subtree.node ≡ doubled is.above (2 * (subtree.node / 2)) = ap (doubled is.above) even in
      let some : 1 ≤ subtree.level = is.some in
      let from : subtree.level ≤ subtree.node = is.from in
      let to : subtree.node < 2 * subtree.level = is.to in
      record {
        above = suc is.above;
        leaves = is.leaves ∙ ap (doubled is.above) level_even;
        power = half.power;
        some = omega arith;
        from = omega arith;
        to = omega arith;
        at = subst (λ (end : ℕ). subtree.first ≤ end) same is.at;
        before = subst (λ (end : ℕ). NoneBetween bounds nodes subtree.first end) same is.before;
      }

  -- the first half of a subtree
  pub reached_left_at : (subtree : Subtree) (above : ℕ) → length nodes / 2 ≡ doubled above subtree.level → 1 ≤ subtree.level → subtree.level ≤ subtree.node → subtree.node < 2 * subtree.level →
      subtree.first ≤ doubled above subtree.node → NoneBetween bounds nodes subtree.first (doubled above subtree.node) → subtree.level < length nodes / 2 →
      IsLevel subtree.level 1 → IsReached bounds nodes (record subtree { level = subtree.level * 2; node = subtree.node * 2 })
  unfolding doubled
  reached_left_at subtree zero leaves some from to at before inner power = absurd (omega arith)
  reached_left_at subtree (suc above) leaves some from to at before inner power =
      let twice : doubled above (2 * subtree.node) ≡ doubled above (subtree.node * 2) = ap (doubled above) (omega arith) in
      record {
        above = above;
        leaves = leaves ∙ ap (doubled above) (omega arith);
        power = more_leaves subtree.level power;
        some = omega arith;
        from = omega arith;
        to = omega arith;
        at = subst (λ (end : ℕ). subtree.first ≤ end) twice at;
        before = subst (λ (end : ℕ). NoneBetween bounds nodes subtree.first end) twice before;
      }

  pub reached_left : (subtree : Subtree) → IsReached bounds nodes subtree → subtree.level < length nodes / 2 → IsReached bounds nodes (record subtree { level = subtree.level * 2; node = subtree.node * 2 })
  reached_left subtree is inner = reached_left_at subtree is.above is.leaves is.some is.from is.to is.at is.before inner is.power

  -- a subtree at the level of the leaves is a leaf
  leaf_at : (subtree : Subtree) (above : ℕ) → length nodes / 2 ≡ doubled above subtree.level → 1 ≤ subtree.level → length nodes / 2 ≤ subtree.level → doubled above subtree.node ≡ subtree.node
  unfolding doubled
  leaf_at subtree zero leaves some last = refl
  leaf_at subtree (suc above) leaves some last =
      let h : 2 * subtree.level ≤ doubled above (2 * subtree.level) = doubled_least above (2 * subtree.level) in
      let e : length nodes / 2 ≡ doubled above (2 * subtree.level) = leaves in
      absurd (omega arith)

  pub reached_leaf : (subtree : Subtree) → IsReached bounds nodes subtree → length nodes / 2 ≤ subtree.level → IsNextLeaf bounds nodes subtree.first subtree.node
  reached_leaf subtree is last =
      let e : doubled is.above subtree.node ≡ subtree.node = leaf_at subtree is.above is.leaves is.some last in
      let least : subtree.level ≤ doubled is.above subtree.level = doubled_least is.above subtree.level in
      let leaves : length nodes / 2 ≡ doubled is.above subtree.level = is.leaves in
      let to : subtree.node < 2 * subtree.level = is.to in
      record {
        behind = subst (λ (end : ℕ). subtree.first ≤ end) e is.at;
        there = omega arith;
        before = subst (λ (end : ℕ). NoneBetween bounds nodes subtree.first end) e is.before;
      }

  -- a leaf is reached at the beginning
  pub reached_first : (first : ℕ) → length nodes / 2 ≤ first → first < length nodes → IsReached bounds nodes (record { first = first; level = length nodes / 2; node = first })
  unfolding doubled
  reached_first first behind there =
      let some : 1 ≤ length nodes / 2 = joined.whole.some in
      let even : length nodes ≡ 2 * (length nodes / 2) = joined.whole.even in
      record { above = 0; leaves = refl; power = joined.whole.level; some = some; from = behind; to = omega arith; at = omega arith; before = record { none = λ leaf from to. absurd (omega arith) } }

  -- its node stands in the list
  pub reached_there : (subtree : Subtree) → IsReached bounds nodes subtree → subtree.node < length nodes
  reached_there subtree is =
      let least : subtree.level ≤ doubled is.above subtree.level = doubled_least is.above subtree.level in
      let leaves : length nodes / 2 ≡ doubled is.above subtree.level = is.leaves in
      let even : length nodes ≡ 2 * (length nodes / 2) = joined.whole.even in
      let to : subtree.node < 2 * subtree.level = is.to in
      omega arith

  -- its level is no further than the leaves'
  pub reached_level : (subtree : Subtree) → IsReached bounds nodes subtree → subtree.level ≤ length nodes / 2
  reached_level subtree is =
      let least : subtree.level ≤ doubled is.above subtree.level = doubled_least is.above subtree.level in
      let leaves : length nodes / 2 ≡ doubled is.above subtree.level = is.leaves in
      omega arith

  -- after a subtree in which no need is met
  pub after_end : (subtree : Subtree) → subtree.node + 1 ≡ 2 * subtree.level → IsReached bounds nodes subtree → is_some_met bounds (node_at nodes subtree.node) ≡ false →
      IsNextSubtree bounds nodes subtree.first None
  after_end subtree last is none = reached_end subtree is last none

  pub after_up : (subtree : Subtree) → subtree.node + 1 < 2 * subtree.level → (subtree.node + 1) % 2 ≡ 0 → IsReached bounds nodes subtree → is_some_met bounds (node_at nodes subtree.node) ≡ false →
      IsNextSubtree bounds nodes subtree.first (Some (record subtree { level = subtree.level / 2; node = (subtree.node + 1) / 2 }))
  after_up subtree room even is none =
      let from : subtree.level ≤ subtree.node = is.from in
      (refl, reached_up (record subtree { node = subtree.node + 1 }) (reached_right subtree is room none) (halved subtree.level (omega arith) is.power) (omega arith))

  -- all leaves are below the root
  pub reached_root : IsReached bounds nodes (record { first = length nodes / 2; level = 1; node = 1 })
  reached_root =
      let level = joined.whole.level in
      let leaves : length nodes / 2 ≡ doubled level.above 1 = level.same in
      record { above = level.above; leaves = leaves; power = one_leaf; some = omega arith; from = omega arith; to = omega arith; at = omega arith; before = record { none = λ leaf from to. absurd (omega arith) } }
