-- The root of a tree of minima is the least leaf.
use Rattle.std.proofs.Math.Arith.{bin_ind}
use Rattle.thread_waits.proofs.Common.{◌≡◌, ℕ, zero, suc, ◌+◌, ◌-◌, ◌*◌, ◌/◌, ◌<◌, ◌≤◌, ◌⊎◌, inl, inr, List, length, Contains, refl, ◌∙◌, subst, ap, arith, slice_index, get_or-drop, length-drop, All-from_get_or, Contains-get_or, IsLeast, IsNode, AreMinima, leaves_in}

-- ---- the root

-- a number is twice its half, or one more
pub halves : (j : ℕ) → (j ≡ 2 * (j / 2)) ⊎ (j ≡ 2 * (j / 2) + 1)
halves j = grind arith

-- a node is no less than the one above it
above : (nodes : List ℕ) → AreMinima nodes → (j i : ℕ) → 1 ≤ i → i < length nodes / 2 → (j ≡ 2 * i) ⊎ (j ≡ 2 * i + 1) → slice_index nodes i ≤ slice_index nodes j
above nodes a j i some below (inl e) = rw e (let n : IsNode nodes i = a.node i some below in omega arith)
above nodes a j i some below (inr e) = rw e (let n : IsNode nodes i = a.node i some below in omega arith)

-- no node is less than the root
at_first : (nodes : List ℕ) → AreMinima nodes → (j : ℕ) → ((1 ≤ j / 2) → (j / 2 < length nodes) → slice_index nodes 1 ≤ slice_index nodes (j / 2)) →
    j < length nodes → (j ≡ 1) ⊎ (2 ≤ j) → slice_index nodes 1 ≤ slice_index nodes j
at_first nodes a j up below (inl e) = rw e (omega arith)
at_first nodes a j up below (inr more) =
    let e : length nodes ≡ 2 * (length nodes / 2) = a.double.even in
    let h : slice_index nodes 1 ≤ slice_index nodes (j / 2) = up (omega arith) (omega arith) in
    let k : slice_index nodes (j / 2) ≤ slice_index nodes j = above nodes a j (j / 2) (omega arith) (omega arith) (halves j) in
    omega arith

one_or_more : (j : ℕ) → 1 ≤ j → (j ≡ 1) ⊎ (2 ≤ j)
one_or_more j h = grind arith

pub root_below : (nodes : List ℕ) → AreMinima nodes → (j : ℕ) → 1 ≤ j → j < length nodes → slice_index nodes 1 ≤ slice_index nodes j
root_below nodes a = bin_ind (λ (j : ℕ). 1 ≤ j → j < length nodes → slice_index nodes 1 ≤ slice_index nodes j)
    (λ some below. absurd (omega arith))
    (λ j up some below. at_first nodes a j up below (one_or_more j some))

-- a leaf has the number of a node
pub record HasLeaf (nodes : List ℕ) (i : ℕ) : Type 0 where
  pub leaf : ℕ
  pub behind : length nodes / 2 ≤ leaf
  pub there : leaf < length nodes
  pub number : slice_index nodes leaf ≡ slice_index nodes i

-- one of the children has the number of a node
pub child : (nodes : List ℕ) (i : ℕ) → IsNode nodes i → (slice_index nodes (2 * i) ≡ slice_index nodes i) ⊎ (slice_index nodes (2 * i + 1) ≡ slice_index nodes i)
child nodes i n = grind arith

leaf_or_node : (half i : ℕ) → (half ≤ i) ⊎ (i < half)
leaf_or_node half i = grind arith

with_number : (nodes : List ℕ) (i j : ℕ) → slice_index nodes j ≡ slice_index nodes i → HasLeaf nodes j → HasLeaf nodes i
with_number nodes i j e h = record { leaf = h.leaf; behind = h.behind; there = h.there; number = h.number ∙ e }

-- from the children of a node to the node
from_children : (nodes : List ℕ) → AreMinima nodes → (i : ℕ) → 1 ≤ i → i < length nodes / 2 →
    ((j : ℕ) → i < j → j < length nodes → HasLeaf nodes j) →
    (slice_index nodes (2 * i) ≡ slice_index nodes i) ⊎ (slice_index nodes (2 * i + 1) ≡ slice_index nodes i) → HasLeaf nodes i
from_children nodes a i some h down (inl e) = with_number nodes i (2 * i) e (down (2 * i) (omega arith) (let d : length nodes ≡ 2 * (length nodes / 2) = a.double.even in omega arith))
from_children nodes a i some h down (inr e) = with_number nodes i (2 * i + 1) e (down (2 * i + 1) (omega arith) (let d : length nodes ≡ 2 * (length nodes / 2) = a.double.even in omega arith))

at_node : (nodes : List ℕ) → AreMinima nodes → (i : ℕ) → 1 ≤ i → i < length nodes →
    ((j : ℕ) → i < j → j < length nodes → HasLeaf nodes j) → (length nodes / 2 ≤ i) ⊎ (i < length nodes / 2) → HasLeaf nodes i
at_node nodes a i some below down (inl h) = record { leaf = i; behind = h; there = below; number = refl }
at_node nodes a i some below down (inr h) = from_children nodes a i some h down (child nodes i (a.node i some h))

-- down from a node, with at most so many nodes behind it
leaf_below : (nodes : List ℕ) → AreMinima nodes → (steps i : ℕ) → length nodes ≤ i + steps → 1 ≤ i → i < length nodes → HasLeaf nodes i
leaf_below nodes a zero i near some below = absurd (omega arith)
leaf_below nodes a (suc steps) i near some below =
    at_node nodes a i some below (λ j more there. leaf_below nodes a steps j (omega arith) (omega arith) there) (leaf_or_node (length nodes / 2) i)

-- the root is the least leaf
pub root_least : (nodes : List ℕ) → AreMinima nodes → IsLeast (leaves_in nodes) (slice_index nodes 1)
root_least nodes a =
    let e : length nodes ≡ 2 * (length nodes / 2) = a.double.even in
    let s : 1 ≤ length nodes / 2 = a.double.some in
    let leaf : HasLeaf nodes 1 = leaf_below nodes a (length nodes) 1 (omega arith) (omega arith) (omega arith) in
    let behind : length nodes / 2 ≤ leaf.leaf = leaf.behind in
    let there : leaf.leaf < length nodes = leaf.there in
    let place : length nodes / 2 + (leaf.leaf - length nodes / 2) ≡ leaf.leaf = omega arith in
    let value : slice_index (leaves_in nodes) (leaf.leaf - length nodes / 2) ≡ slice_index nodes 1 =
    get_or-drop (length nodes / 2) nodes (leaf.leaf - length nodes / 2) 0 ∙ ap (λ k. slice_index nodes k) place ∙ leaf.number in
    record {
      there = subst (λ (x : ℕ). Contains (leaves_in nodes) x) value (Contains-get_or (leaves_in nodes) (leaf.leaf - length nodes / 2) 0 (rw (length-drop (length nodes / 2) nodes) (omega arith)));
      lowest = All-from_get_or (λ number. slice_index nodes 1 ≤ number) (leaves_in nodes) 0 (λ i h.
          let k : i < length nodes - length nodes / 2 = rw (length-drop (length nodes / 2) nodes) at h in
          rw (get_or-drop (length nodes / 2) nodes i 0) (root_below nodes a (length nodes / 2 + i) (omega arith) (omega arith)));
    }
