-- The edges of a list of records, pair by pair.
use Rattle.blocking_graph.proofs.Common.{◌≡◌, ◌≢◌, ℕ, zero, suc, ◌+◌, ◌<◌, ◌==◌, ◌&&◌, Bool, true, false, IsTrue, ℤ, pos, Option, Some, None, List, [], ◌∷◌, ◌++◌, length, map, fold, get_or, refl, sym, ap, ◌∙◌, subst, arith, AllByRecursion, nat_tests, append-nil, append_assoc, get_or-map, length-map, filter-append, EdgeLine, SegmentRecord, first_average, next_average, next_averages, is_before, is_of, first_edge, next_edge, edges_with, edges_of, IsRising, precedes, records_of, edge_between, average_of, TellsOf, IsEdgeOf, HasEight}
use Rattle.blocking_graph.proofs.GraphLemmas.{edges_with-rising, length-next_averages}

-- a test is true or false
pub by_test : (b : Bool) (P : Type 0) → (b ≡ true → P) → (b ≡ false → P) → P
by_test true P first second = first refl
by_test false P first second = second refl

-- ---- one more sample

fold-last : (average : ℤ) (samples : List ℤ) (sample : ℤ) → fold next_average average (samples ++ sample ∷ []) ≡ next_average (fold next_average average samples) sample
fold-last average [] sample = refl
fold-last average (first ∷ samples) sample = fold-last (next_average average first) samples sample

map-last : (sample_of : SegmentRecord → ℤ) (records : List SegmentRecord) (segment : SegmentRecord) →
    map sample_of (records ++ segment ∷ []) ≡ map sample_of records ++ sample_of segment ∷ []
map-last sample_of [] segment = refl
map-last sample_of (r ∷ records) segment = ap (λ (zs : List ℤ). sample_of r ∷ zs) (map-last sample_of records segment)

-- the average after one more record, of a sample that each record has
average_of-more : (sample_of : SegmentRecord → ℤ) (records : List SegmentRecord) (segment : SegmentRecord) → records ≢ [] →
    average_of (map sample_of (records ++ segment ∷ [])) ≡ next_average (average_of (map sample_of records)) (sample_of segment)
average_of-more sample_of [] segment some = absurd (some refl)
average_of-more sample_of (first ∷ records) segment some =
    rw (map-last sample_of records segment) (fold-last (first_average (sample_of first)) (map sample_of records) (sample_of segment))

next_averages-at : (averages samples : List ℤ) (k : ℕ) → k < length averages → k < length samples →
    get_or (next_averages averages samples) k (pos 0) ≡ next_average (get_or averages k (pos 0)) (get_or samples k (pos 0))
next_averages-at (a ∷ averages) (s ∷ samples) zero p q = refl
next_averages-at (a ∷ averages) (s ∷ samples) (suc k) p q = next_averages-at averages samples k (omega arith) (omega arith)
next_averages-at _ _ k p q = absurd (omega arith)

some_more : (records : List SegmentRecord) (segment : SegmentRecord) → records ++ segment ∷ [] ≢ []
some_more [] segment = λ e. absurd cc
some_more (r ∷ records) segment = λ e. absurd cc

length-last : (records : List SegmentRecord) (segment : SegmentRecord) → length (records ++ segment ∷ []) ≡ length records + 1
length-last [] segment = refl
length-last (r ∷ records) segment = omega (arith, length-last records segment)

-- the edge after one more record of its pair
abbrev after_record : Option EdgeLine → SegmentRecord → EdgeLine
after_record None segment = first_edge segment
after_record (Some edge) segment = next_edge edge segment

first_tells : (segment : SegmentRecord) → HasEight segment → TellsOf (segment ∷ []) (first_edge segment)
first_tells segment eight = record {
  some = some_more [] segment;
  count = refl;
  cost = refl;
  eight = let e : length (map first_average segment.change) ≡ length segment.change = simp length-map in omega (arith, e);
  change = λ resource h. get_or-map first_average segment.change resource (pos 0) (pos 0) (omega arith);
}

next_tells : (records : List SegmentRecord) (edge : EdgeLine) (segment : SegmentRecord) → TellsOf records edge → HasEight segment →
    TellsOf (records ++ segment ∷ []) (next_edge edge segment)
next_tells records edge segment told eight = record {
  some = some_more records segment;
  count = omega (arith, told.count, length-last records segment);
  cost = ap (λ (z : ℤ). next_average z (pos segment.cost)) told.cost ∙ sym (average_of-more (λ r. pos r.cost) records segment told.some);
  eight = omega (arith, told.eight, length-next_averages edge.change segment.change (omega (arith, told.eight)));
  change = λ resource h.
      next_averages-at edge.change segment.change resource (omega (arith, told.eight)) (omega arith)
      ∙ ap (λ (z : ℤ). next_average z (get_or segment.change resource (pos 0))) (told.change resource h)
      ∙ sym (average_of-more (λ r. get_or r.change resource (pos 0)) records segment told.some);
}

one_more : (records : List SegmentRecord) (edge : Option EdgeLine) (segment : SegmentRecord) → IsEdgeOf records edge → HasEight segment →
    TellsOf (records ++ segment ∷ []) (after_record edge segment)
one_more records None segment told eight = rw told (first_tells segment eight)
one_more records (Some edge) segment told eight = next_tells records edge segment told eight

-- ---- the edge of a pair, after one more record of some pair

module _ (from to : ℕ) where
  abbrev pub leads : EdgeLine → Bool
  leads edge = edge.from == from && edge.to == to

  abbrev pub is_record : SegmentRecord → Bool
  is_record segment = segment.from == from && segment.to == to

  pub before_leads_not : (edge : EdgeLine) (segment : SegmentRecord) → is_record segment ≡ true → is_before edge segment ≡ true → leads edge ≡ false
  before_leads_not edge segment h before = grind (arith, nat_tests)

  pub same_leads : (edge : EdgeLine) (segment : SegmentRecord) → is_record segment ≡ true → is_of edge segment ≡ true → leads edge ≡ true
  same_leads edge segment h same = grind (arith, nat_tests)

  same_leads_not : (edge : EdgeLine) (segment : SegmentRecord) → is_record segment ≡ false → is_of edge segment ≡ true → leads edge ≡ false
  same_leads_not edge segment h same = grind (arith, nat_tests)

  pub after_leads_not : (edge : EdgeLine) (segment : SegmentRecord) → is_record segment ≡ true → is_before edge segment ≡ false → is_of edge segment ≡ false →
      leads edge ≡ false
  after_leads_not edge segment h later other = grind (arith, nat_tests)

  later_leads_not : (edge next : EdgeLine) (segment : SegmentRecord) → is_record segment ≡ true → is_before edge segment ≡ false → is_of edge segment ≡ false →
      IsTrue (precedes edge next) → leads next ≡ false
  later_leads_not edge next segment h later other p = grind (arith, nat_tests)

  pub none_later : (edge : EdgeLine) (edges : List EdgeLine) (segment : SegmentRecord) → is_record segment ≡ true → is_before edge segment ≡ false → is_of edge segment ≡ false →
      AllByRecursion (λ next. IsTrue (precedes edge next)) edges → edge_between edges from to ≡ None
  none_later edge [] segment h later other all = refl
  none_later edge (next ∷ edges) segment h later other all =
      rw (later_leads_not edge next segment h later other all.0) (none_later edge edges segment h later other all.1)

  elsewhere : (edges : List EdgeLine) (segment : SegmentRecord) → is_record segment ≡ false →
      edge_between (edges_with edges segment) from to ≡ edge_between edges from to
  elsewhere [] segment h = rw h refl
  elsewhere (edge ∷ edges) segment h =
      by_test (is_before edge segment) _
      (λ before. by_test (leads edge) _
      (λ here. rw (before, here) refl)
      (λ not_here. rw (before, not_here) (elsewhere edges segment h)))
      (λ later. by_test (is_of edge segment) _
      (λ same. rw (later, same, same_leads_not edge segment h same) refl)
      (λ other. rw (later, other, h) refl))

  here : (edges : List EdgeLine) (segment : SegmentRecord) → IsRising edges → is_record segment ≡ true →
      edge_between (edges_with edges segment) from to ≡ Some (after_record (edge_between edges from to) segment)
  here [] segment rising h = rw h refl
  here (edge ∷ edges) segment rising h =
      by_test (is_before edge segment) _
      (λ before. rw (before, before_leads_not edge segment h before) (here edges segment rising.1 h))
      (λ later. by_test (is_of edge segment) _
      (λ same. rw (later, same, same_leads edge segment h same) refl)
      (λ other. rw (later, other, h, after_leads_not edge segment h later other, none_later edge edges segment h later other rising.0) refl))

  step : (edges : List EdgeLine) (done : List SegmentRecord) (segment : SegmentRecord) → IsRising edges → HasEight segment →
      IsEdgeOf (records_of done from to) (edge_between edges from to) →
      IsEdgeOf (records_of (done ++ segment ∷ []) from to) (edge_between (edges_with edges segment) from to)
  step edges done segment rising eight told =
      rw (filter-append is_record done (segment ∷ []))
      (by_test (is_record segment) _
      (λ yes. rw (yes, here edges segment rising yes) (one_more (records_of done from to) (edge_between edges from to) segment told eight))
      (λ no. rw (no, elsewhere edges segment no, append-nil (records_of done from to)) told))

  told_from : (edges : List EdgeLine) (done records : List SegmentRecord) → IsRising edges → AllByRecursion HasEight records →
      IsEdgeOf (records_of done from to) (edge_between edges from to) →
      IsEdgeOf (records_of (done ++ records) from to) (edge_between (fold edges_with edges records) from to)
  told_from edges done [] rising eight told = rw (append-nil done) told
  told_from edges done (segment ∷ records) rising eight told =
      subst (λ all. IsEdgeOf (records_of all from to) (edge_between (fold edges_with (edges_with edges segment) records) from to))
      (append_assoc done (segment ∷ []) records)
      (told_from (edges_with edges segment) (done ++ segment ∷ []) records (edges_with-rising edges segment rising) eight.1
      (step edges done segment rising eight.0 told))

pub edges_of-told : (records : List SegmentRecord) → AllByRecursion HasEight records → (from to : ℕ) →
    IsEdgeOf (records_of records from to) (edge_between (edges_of records) from to)
edges_of-told records eight from to = told_from from to [] [] records tt eight refl
