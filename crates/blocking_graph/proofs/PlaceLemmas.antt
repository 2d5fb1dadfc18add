-- The place of a record among edges in order, and the edge that stands there.
use Rattle.std.specs.Prelude.{IsTrue}
use Rattle.blocking_graph.proofs.Common.{◌≡◌, ℕ, zero, suc, ◌≤◌, ◌<◌, ◌==◌, ◌&&◌, Bool, true, false, Some, None, not, List, [], ◌∷◌, length, get_or, refl, arith, position_or_len, nat_tests, EdgeLine, SegmentRecord, is_before, is_of, IsRising, precedes, edge_between}
use Rattle.std.specs.List.Sorted.{IsPartitionedBy, IsPartitionPoint}
use Rattle.blocking_graph.proofs.EdgeLemmas.{at_index, zero_place, suc_place, next_place}
use Rattle.blocking_graph.proofs.PairLemmas.{before_leads_not, same_leads, after_leads_not, none_later}

-- an edge that precedes one before the record comes before it
before-precedes : (a b : EdgeLine) (segment : SegmentRecord) → IsTrue (precedes a b) → is_before b segment ≡ true → is_before a segment ≡ true
before-precedes a b segment p q = grind (arith, nat_tests)

pub rising-parted : (edges : List EdgeLine) (segment : SegmentRecord) → IsRising edges → IsPartitionedBy (λ edge. is_before edge segment) edges
rising-parted (e ∷ edges) segment rising zero zero d le lt comes = comes
rising-parted (e ∷ edges) segment rising zero (suc j) d le lt comes =
    before-precedes e (get_or edges j d) segment (at_index (λ other. IsTrue (precedes e other)) edges j d rising.0 (omega arith)) comes
rising-parted (e ∷ edges) segment rising (suc i) (suc j) d le lt comes = rising-parted edges segment rising.1 i j d (omega arith) (omega arith) comes
rising-parted _ segment rising _ _ d le lt comes = absurd (omega arith)

-- the first that fails a test is at the point to which all pass it
pub point-place : {X : Type 0} (p : X → Bool) (xs : List X) (i : ℕ) → i ≤ length xs → IsPartitionPoint (λ y. p y ≡ true) (λ y. p y ≡ false) xs i → i ≡ position_or_len (λ y. not (p y)) xs
point-place p [] i within point = omega arith
point-place p (x ∷ xs) zero within point =
    let fails : p x ≡ false = point.1 0 x (omega arith) (omega arith) in rw fails refl
point-place p (x ∷ xs) (suc i) within point =
    let holds : p x ≡ true = point.0 0 x (omega arith) (omega arith) in
    let rest : i ≡ position_or_len (λ y. not (p y)) xs =
    point-place p xs i (omega arith) ((λ k d low high. point.0 (suc k) d (omega arith) (omega arith)), (λ k d low high. point.1 (suc k) d (omega arith) (omega arith))) in
    rw holds (omega (arith, rest))

-- a record is of its own pair of nodes
abbrev of_itself : SegmentRecord → Bool
of_itself segment = segment.from == segment.from && segment.to == segment.to

pub is_of_itself : (segment : SegmentRecord) → of_itself segment ≡ true
is_of_itself segment = grind (arith, nat_tests)

-- ---- the edge of a record's pair, from the place of the record

pub edge_between-there : (edges : List EdgeLine) (segment : SegmentRecord) (i : ℕ) (d : EdgeLine) →
    position_or_len (λ edge. not (is_before edge segment)) edges ≡ i → i < length edges → is_of (get_or edges i d) segment ≡ true →
    edge_between edges segment.from segment.to ≡ Some (get_or edges i d)
edge_between-there [] segment i d at h same = absurd (omega arith)
edge_between-there (e ∷ edges) segment zero d at h same =
    rw (same_leads segment.from segment.to e segment (is_of_itself segment) same) refl
edge_between-there (e ∷ edges) segment (suc i) d at h same =
    let before : is_before e segment ≡ true = suc_place _ _ _ at in
    rw (before_leads_not segment.from segment.to e segment (is_of_itself segment) before)
    (edge_between-there edges segment i d (next_place _ _ _ at) (omega arith) same)

pub edge_between-other : (edges : List EdgeLine) (segment : SegmentRecord) (i : ℕ) (d : EdgeLine) → IsRising edges →
    position_or_len (λ edge. not (is_before edge segment)) edges ≡ i → i < length edges → is_of (get_or edges i d) segment ≡ false →
    edge_between edges segment.from segment.to ≡ None
edge_between-other [] segment i d rising at h other = absurd (omega arith)
edge_between-other (e ∷ edges) segment zero d rising at h other =
    let later : is_before e segment ≡ false = zero_place _ _ at in
    rw (after_leads_not segment.from segment.to e segment (is_of_itself segment) later other)
    (none_later segment.from segment.to e edges segment (is_of_itself segment) later other rising.0)
edge_between-other (e ∷ edges) segment (suc i) d rising at h other =
    let before : is_before e segment ≡ true = suc_place _ _ _ at in
    rw (before_leads_not segment.from segment.to e segment (is_of_itself segment) before)
    (edge_between-other edges segment i d rising.1 (next_place _ _ _ at) (omega arith) other)

pub edge_between-last : (edges : List EdgeLine) (segment : SegmentRecord) (i : ℕ) →
    position_or_len (λ edge. not (is_before edge segment)) edges ≡ i → length edges ≤ i → edge_between edges segment.from segment.to ≡ None
edge_between-last [] segment i at h = refl
edge_between-last (e ∷ edges) segment zero at h = absurd (omega arith)
edge_between-last (e ∷ edges) segment (suc i) at h =
    let before : is_before e segment ≡ true = suc_place _ _ _ at in
    rw (before_leads_not segment.from segment.to e segment (is_of_itself segment) before)
    (edge_between-last edges segment i (next_place _ _ _ at) (omega arith))
