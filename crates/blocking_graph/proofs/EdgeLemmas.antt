-- Where a record's edge stands among the edges.
use Rattle.blocking_graph.proofs.Common.{◌≡◌, ℕ, zero, suc, ◌+◌, ◌≤◌, ◌<◌, Bool, true, false, cond, not, List, [], ◌∷◌, length, get_or, set, refl, arith, position_or_len, insert, AllByRecursion, EdgeLine, SegmentRecord, is_before, is_of, first_edge, next_edge, edges_with}

-- a place of 0: the first edge doesn't come before
pub zero_place : (b : Bool) (n : ℕ) → cond (not (not b)) (1 + n) 0 ≡ 0 → b ≡ false
zero_place true n h = absurd (omega arith)
zero_place false n h = refl

pub suc_place : (b : Bool) (n i : ℕ) → cond (not (not b)) (1 + n) 0 ≡ suc i → b ≡ true
suc_place true n i h = refl
suc_place false n i h = absurd (omega arith)

pub next_place : (b : Bool) (n i : ℕ) → cond (not (not b)) (1 + n) 0 ≡ suc i → n ≡ i
next_place true n i h = omega arith
next_place false n i h = absurd (omega arith)

-- where the edge is there, it takes one more record
pub edges_with-found : (edges : List EdgeLine) (segment : SegmentRecord) (i : ℕ) (d : EdgeLine) →
    position_or_len (λ edge. not (is_before edge segment)) edges ≡ i → i < length edges → is_of (get_or edges i d) segment ≡ true →
    edges_with edges segment ≡ set edges i (next_edge (get_or edges i d) segment)
edges_with-found [] segment i d at h same = absurd (omega arith)
edges_with-found (e ∷ edges) segment zero d at h same =
    let later : is_before e segment ≡ false = zero_place _ _ at in
    rw (later, same) refl
edges_with-found (e ∷ edges) segment (suc i) d at h same =
    let before : is_before e segment ≡ true = suc_place _ _ _ at in
    let rest : edges_with edges segment ≡ set edges i (next_edge (get_or edges i d) segment) =
    edges_with-found edges segment i d (next_place _ _ _ at) (omega arith) same in
    rw (before, rest) refl

-- where it isn't, a first edge goes there
pub edges_with-new : (edges : List EdgeLine) (segment : SegmentRecord) (i : ℕ) (d : EdgeLine) →
    position_or_len (λ edge. not (is_before edge segment)) edges ≡ i → i < length edges → is_of (get_or edges i d) segment ≡ false →
    edges_with edges segment ≡ insert edges i (first_edge segment)
edges_with-new [] segment i d at h other = absurd (omega arith)
edges_with-new (e ∷ edges) segment zero d at h other =
    let later : is_before e segment ≡ false = zero_place _ _ at in
    rw (later, other) refl
edges_with-new (e ∷ edges) segment (suc i) d at h other =
    let before : is_before e segment ≡ true = suc_place _ _ _ at in
    let rest : edges_with edges segment ≡ insert edges i (first_edge segment) =
    edges_with-new edges segment i d (next_place _ _ _ at) (omega arith) other in
    rw (before, rest) refl

pub edges_with-last : (edges : List EdgeLine) (segment : SegmentRecord) (i : ℕ) →
    position_or_len (λ edge. not (is_before edge segment)) edges ≡ i → length edges ≤ i →
    edges_with edges segment ≡ insert edges i (first_edge segment)
edges_with-last [] segment zero at h = refl
edges_with-last (e ∷ edges) segment (suc i) at h =
    let before : is_before e segment ≡ true = suc_place _ _ _ at in
    let rest : edges_with edges segment ≡ insert edges i (first_edge segment) =
    edges_with-last edges segment i (next_place _ _ _ at) (omega arith) in
    rw (before, rest) refl
edges_with-last _ segment _ at h = absurd (omega arith)

-- what holds of each element holds of the one at an index
pub at_index : {X : Type 0} (P : X → Type 0) (xs : List X) (i : ℕ) (d : X) → AllByRecursion P xs → i < length xs → P (get_or xs i d)
at_index P [] i d all h = absurd (omega arith)
at_index P (x ∷ xs) zero d all h = all.0
at_index P (x ∷ xs) (suc i) d all h = at_index P xs i d all.1 (omega arith)
