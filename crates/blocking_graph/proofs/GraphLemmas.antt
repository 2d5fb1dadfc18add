-- What a graph keeps when it takes in a record.
use Rattle.blocking_graph.proofs.Common.{◌≡◌, ℕ, ◌+◌, ◌*◌, ◌^◌, ◌≤◌, ◌<◌, Bool, true, false, cond, IsTrue, ℤ, pos, negsuc, ◌-ℤ◌, ◌*ℤ◌, unsigned_abs, List, [], ◌∷◌, length, get_or, map, refl, arith, AllByRecursion, nat_tests, ints, unsigned_abs-mul, length-map, All-map, All-from_recursion, recursion_from_All, EdgeLine, SegmentRecord, floor_div, first_average, next_average, next_averages, is_before, is_of, first_edge, next_edge, edges_with, count_of, GraphState, IsGraph, IsEdge, IsSegment, IsRising, precedes}
use Rattle.blocking_graph.proofs.PredictionLemmas.{count_of-cons, sum-le}

-- a fact of both choices
chosen : (b : Bool) (x y : List EdgeLine) (P : List EdgeLine → Type 0) → (b ≡ true → P x) → (b ≡ false → P y) → P (cond b x y)
chosen true x y P first second = first refl
chosen false x y P first second = second refl

-- ---- the averages stay in their samples' range, scaled

first_average-le : (sample : ℤ) (size : ℕ) → unsigned_abs sample ≤ size → unsigned_abs (first_average sample) ≤ 256 * size
first_average-le sample size h = rw (unsigned_abs-mul (pos 256) sample) (omega arith)

kept_part-le : (average : ℤ) (size : ℕ) → unsigned_abs average ≤ 256 * size → unsigned_abs (average -ℤ floor_div average 8) ≤ 224 * size
kept_part-le (pos n) size h = omega (arith, ints)
kept_part-le (negsuc n) size h = omega (arith, ints)

next_average-le : (average sample : ℤ) (size : ℕ) → unsigned_abs average ≤ 256 * size → unsigned_abs sample ≤ size →
    unsigned_abs (next_average average sample) ≤ 256 * size
next_average-le average sample size p q =
    let new : unsigned_abs (pos 32 *ℤ sample) ≤ 32 * size = rw (unsigned_abs-mul (pos 32) sample) (omega arith) in
    let both : unsigned_abs (next_average average sample) ≤ 224 * size + 32 * size =
    sum-le (average -ℤ floor_div average 8) (pos 32 *ℤ sample) (224 * size) (32 * size) (kept_part-le average size p) new in
    omega arith

next_averages-le : (averages samples : List ℤ) (size : ℕ) → AllByRecursion (λ average. unsigned_abs average ≤ 256 * size) averages →
    AllByRecursion (λ sample. unsigned_abs sample ≤ size) samples →
    AllByRecursion (λ average. unsigned_abs average ≤ 256 * size) (next_averages averages samples)
next_averages-le (a ∷ averages) (s ∷ samples) size p q =
    (next_average-le a s size p.0 q.0, next_averages-le averages samples size p.1 q.1)
next_averages-le _ _ size p q = tt

pub length-next_averages : (averages samples : List ℤ) → length averages ≡ length samples → length (next_averages averages samples) ≡ length averages
length-next_averages [] samples h = refl
length-next_averages (a ∷ averages) [] h = absurd (omega arith)
length-next_averages (a ∷ averages) (s ∷ samples) h = omega (arith, length-next_averages averages samples (omega arith))

-- ---- each edge stays one

pub IsEdge-first : (segment : SegmentRecord) → IsSegment segment → length segment.change ≡ 8 → IsEdge (first_edge segment)
IsEdge-first segment range eight = record {
  some = omega arith;
  cost = let h : segment.cost < 2 ^ 40 = range.cost in omega arith;
  eight = let h : length (map first_average segment.change) ≡ length segment.change = simp length-map in omega (arith, h);
  changes = All-map (λ average. unsigned_abs average ≤ 2 ^ 39) first_average segment.change
      (λ k d h. let small : unsigned_abs (get_or segment.change k d) ≤ 2 ^ 31 = range.changes k d h in
      let scaled : unsigned_abs (first_average (get_or segment.change k d)) ≤ 256 * 2 ^ 31 = first_average-le (get_or segment.change k d) (2 ^ 31) small in
      omega arith);
}

pub IsEdge-next : (edge : EdgeLine) (segment : SegmentRecord) → IsEdge edge → IsSegment segment → length segment.change ≡ 8 → IsEdge (next_edge edge segment)
IsEdge-next edge segment kept range eight = record {
  some = omega arith;
  cost = next_average-le edge.cost (pos segment.cost) (2 ^ 40) kept.cost (let h : segment.cost < 2 ^ 40 = range.cost in omega arith);
  eight = let h : length edge.change ≡ 8 = kept.eight in omega (arith, length-next_averages edge.change segment.change (omega arith));
  changes = All-from_recursion (λ average. unsigned_abs average ≤ 2 ^ 39) (next_averages edge.change segment.change)
      (next_averages-le edge.change segment.change (2 ^ 31)
      (recursion_from_All (λ average. unsigned_abs average ≤ 2 ^ 39) edge.change kept.changes)
      (recursion_from_All (λ sample. unsigned_abs sample ≤ 2 ^ 31) segment.change range.changes));
}

pub edges_with-edges : (edges : List EdgeLine) (segment : SegmentRecord) → AllByRecursion IsEdge edges → IsSegment segment → length segment.change ≡ 8 →
    AllByRecursion IsEdge (edges_with edges segment)
edges_with-edges [] segment all range eight = (IsEdge-first segment range eight, tt)
edges_with-edges (e ∷ edges) segment all range eight =
    let rest : AllByRecursion IsEdge (edges_with edges segment) = edges_with-edges edges segment all.1 range eight in
    chosen (is_before e segment) _ _ (AllByRecursion IsEdge)
    (λ h. (all.0, rest))
    (λ h. chosen (is_of e segment) _ _ (AllByRecursion IsEdge)
    (λ same. (IsEdge-next e segment all.0 range eight, all.1))
    (λ other. (IsEdge-first segment range eight, all)))

-- ---- one more record

pub count_of-edges_with : (edges : List EdgeLine) (segment : SegmentRecord) → count_of (edges_with edges segment) ≡ count_of edges + 1
count_of-edges_with [] segment = refl
count_of-edges_with (e ∷ edges) segment =
    let rest : count_of (edges_with edges segment) ≡ count_of edges + 1 = count_of-edges_with edges segment in
    chosen (is_before e segment) _ _ (λ result. count_of result ≡ count_of (e ∷ edges) + 1)
    (λ h. omega (arith, count_of-cons e (edges_with edges segment), count_of-cons e edges))
    (λ h. chosen (is_of e segment) _ _ (λ result. count_of result ≡ count_of (e ∷ edges) + 1)
    (λ same. omega (arith, count_of-cons (next_edge e segment) edges, count_of-cons e edges))
    (λ other. omega (arith, count_of-cons (first_edge segment) (e ∷ edges))))

pub ruleset counts = (count_of-edges_with)

-- ---- the edges stay in order

precedes-first : (edge : EdgeLine) (segment : SegmentRecord) → is_before edge segment ≡ true → IsTrue (precedes edge (first_edge segment))
precedes-first edge segment h = h

first-precedes : (edge : EdgeLine) (segment : SegmentRecord) → is_before edge segment ≡ false → is_of edge segment ≡ false → IsTrue (precedes (first_edge segment) edge)
first-precedes edge segment later other = grind (arith, nat_tests)

precedes-trans : (a b c : EdgeLine) → IsTrue (precedes a b) → IsTrue (precedes b c) → IsTrue (precedes a c)
precedes-trans a b c p q = grind (arith, nat_tests)

all_after : (a b : EdgeLine) (edges : List EdgeLine) → IsTrue (precedes a b) → AllByRecursion (λ other. IsTrue (precedes b other)) edges →
    AllByRecursion (λ other. IsTrue (precedes a other)) edges
all_after a b [] h all = tt
all_after a b (e ∷ edges) h all = (precedes-trans a b e h all.0, all_after a b edges h all.1)

same_after : (edge : EdgeLine) (segment : SegmentRecord) (edges : List EdgeLine) → AllByRecursion (λ other. IsTrue (precedes edge other)) edges →
    AllByRecursion (λ other. IsTrue (precedes (next_edge edge segment) other)) edges
same_after edge segment [] all = tt
same_after edge segment (e ∷ edges) all = (all.0, same_after edge segment edges all.1)

-- the same, at an edge that takes the record
to_next : (a e : EdgeLine) (segment : SegmentRecord) → IsTrue (precedes a e) → IsTrue (precedes a (next_edge e segment))
to_next a e segment h = h

after_with : (a : EdgeLine) (edges : List EdgeLine) (segment : SegmentRecord) → IsTrue (precedes a (first_edge segment)) →
    AllByRecursion (λ other. IsTrue (precedes a other)) edges → AllByRecursion (λ other. IsTrue (precedes a other)) (edges_with edges segment)
after_with a [] segment h all = (h, tt)
after_with a (e ∷ edges) segment h all =
    let rest : AllByRecursion (λ other. IsTrue (precedes a other)) (edges_with edges segment) = after_with a edges segment h all.1 in
    chosen (is_before e segment) _ _ (AllByRecursion (λ other. IsTrue (precedes a other)))
    (λ before. (all.0, rest))
    (λ later. chosen (is_of e segment) _ _ (AllByRecursion (λ other. IsTrue (precedes a other)))
    (λ same. (to_next a e segment all.0, all.1))
    (λ other. (h, all)))

pub edges_with-rising : (edges : List EdgeLine) (segment : SegmentRecord) → IsRising edges → IsRising (edges_with edges segment)
edges_with-rising [] segment rising = (tt, tt)
edges_with-rising (e ∷ edges) segment rising =
    let rest : IsRising (edges_with edges segment) = edges_with-rising edges segment rising.1 in
    chosen (is_before e segment) _ _ IsRising
    (λ before. (after_with e edges segment (precedes-first e segment before) rising.0, rest))
    (λ later. chosen (is_of e segment) _ _ IsRising
    (λ same. (same_after e segment edges rising.0, rising.1))
    (λ other. ((first-precedes e segment later other, all_after (first_edge segment) e edges (first-precedes e segment later other) rising.0), rising)))

pub IsGraph-note : (graph : GraphState) (segment : SegmentRecord) → IsGraph graph → IsSegment segment → length segment.change ≡ 8 →
    count_of graph.edges < 2 ^ 40 → IsGraph (record graph { edges = edges_with graph.edges segment })
IsGraph-note graph segment kept range eight room = record {
  edges = edges_with-edges graph.edges segment kept.edges range eight;
  rising = edges_with-rising graph.edges segment kept.rising;
  counted = omega (arith, count_of-edges_with graph.edges segment);
  numbered = kept.numbered;
}
