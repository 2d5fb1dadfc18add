-- The sums over the edges from a node, after one more record.
use Rattle.blocking_graph.proofs.Common.{◌≡◌, ◌≢◌, ℕ, ◌+◌, ◌*◌, ◌^◌, ◌≤◌, ◌<◌, ◌==◌, true, false, cond, ℤ, pos, ◌+ℤ◌, ◌-ℤ◌, unsigned_abs, Option, Some, None, IfSome, List, [], ◌∷◌, length, get_or, fold, refl, sym, ap, ◌∙◌, subst, arith, ⊎_elim, AllByRecursion, BTreeMap, get, is_at, Updates, nat_cmp, nat_tests, ints, EdgeLine, SegmentRecord, NodeSums, is_before, is_of, first_edge, next_edge, edges_with, edges_from, count_of, with_weight, weighted_change, IsEdge, IsSegment, IsRising, edge_between, weight, weight_or_0, edge_after, IsSumOf, IsKeptOf, AreSumsOf, IsMoved}
use Rattle.std.proofs.lemmas.Bool.{cases_eq}
use Rattle.blocking_graph.proofs.GraphLemmas.{IsEdge-first, IsEdge-next}
use Rattle.blocking_graph.proofs.PairLemmas.{by_test, before_leads_not, same_leads, after_leads_not, none_later, leads}
use Rattle.blocking_graph.proofs.PlaceLemmas.{is_of_itself}
use Rattle.blocking_graph.proofs.PredictionLemmas.{edges_from-yes, edges_from-no, count_of-cons, count_of-edges_from, weight-le, sum-le}

-- ---- the sum of a list of edges, from its front

shifted : (a b c : ℤ) → (a +ℤ b) +ℤ c ≡ a +ℤ ((pos 0 +ℤ b) +ℤ c)
shifted a b c = omega (arith, ints)

from_0 : (a b : ℤ) → (pos 0 +ℤ a) +ℤ b ≡ a +ℤ b
from_0 a b = omega (arith, ints)

none_more : (a : ℤ) → a ≡ a +ℤ pos 0
none_more a = omega (arith, ints)

fold_from : (resource : ℕ) (start : ℤ) (edges : List EdgeLine) → fold (with_weight resource) start edges ≡ start +ℤ weighted_change edges resource
fold_from resource start [] = none_more start
fold_from resource start (e ∷ edges) =
    fold_from resource (start +ℤ weight e resource) edges
    ∙ shifted start (weight e resource) (weighted_change edges resource)
    ∙ ap (λ (z : ℤ). start +ℤ z) (sym (fold_from resource (pos 0 +ℤ weight e resource) edges))

pub weighted_change-cons : (e : EdgeLine) (edges : List EdgeLine) (resource : ℕ) →
    weighted_change (e ∷ edges) resource ≡ weight e resource +ℤ weighted_change edges resource
weighted_change-cons e edges resource =
    fold_from resource (pos 0 +ℤ weight e resource) edges ∙ from_0 (weight e resource) (weighted_change edges resource)

-- ---- the edges from one node

abbrev out : List EdgeLine → ℕ → ℕ → ℤ
out edges node resource = weighted_change (edges_from edges node) resource

abbrev out_count : List EdgeLine → ℕ → ℕ
out_count edges node = count_of (edges_from edges node)

out-here : (e : EdgeLine) (edges : List EdgeLine) (node resource : ℕ) → e.from ≡ node → out (e ∷ edges) node resource ≡ weight e resource +ℤ out edges node resource
out-here e edges node resource h =
    ap (λ (es : List EdgeLine). weighted_change es resource) (edges_from-yes e edges node h) ∙ weighted_change-cons e (edges_from edges node) resource

out_count-here : (e : EdgeLine) (edges : List EdgeLine) (node : ℕ) → e.from ≡ node → out_count (e ∷ edges) node ≡ e.count + out_count edges node
out_count-here e edges node h = ap count_of (edges_from-yes e edges node h) ∙ count_of-cons e (edges_from edges node)

-- what an edge adds to the sums of a node
abbrev part : EdgeLine → ℕ → ℕ → ℤ
part e node resource = cond (e.from == node) (weight e resource) (pos 0)

abbrev part_count : EdgeLine → ℕ → ℕ
part_count e node = cond (e.from == node) e.count 0

zero_more : (a : ℤ) → a ≡ pos 0 +ℤ a
zero_more a = omega (arith, ints)

out-cons : (e : EdgeLine) (edges : List EdgeLine) (node resource : ℕ) → out (e ∷ edges) node resource ≡ part e node resource +ℤ out edges node resource
out-cons e edges node resource =
    by_test (e.from == node) _
    (λ here. rw here (weighted_change-cons e (edges_from edges node) resource))
    (λ elsewhere. rw elsewhere (zero_more (out edges node resource)))

out_count-cons : (e : EdgeLine) (edges : List EdgeLine) (node : ℕ) → out_count (e ∷ edges) node ≡ part_count e node + out_count edges node
out_count-cons e edges node =
    by_test (e.from == node) _
    (λ here. rw here (count_of-cons e (edges_from edges node)))
    (λ elsewhere. rw elsewhere (omega arith))

-- ---- one more record of an edge from the node

-- the sums over new edges are those over old ones, in which one edge, if it was there, gave way to what it is after a record
record IsBalanced (node resource : ℕ) (old new : List EdgeLine) (before : Option EdgeLine) (after : EdgeLine) : Type 0 where
  count : out_count new node ≡ out_count old node + 1
  total : out new node resource ≡ (out old node resource -ℤ weight_or_0 before resource) +ℤ weight after resource

abbrev IsStepped : ℕ → List EdgeLine → List EdgeLine → Option EdgeLine → SegmentRecord → Type 0
IsStepped resource old new before segment = IsBalanced segment.from resource old new before (edge_after before segment)

gained : (total more : ℤ) → more +ℤ total ≡ (total -ℤ pos 0) +ℤ more
gained total more = omega (arith, ints)

gave_way : (rest less more : ℤ) → more +ℤ rest ≡ ((less +ℤ rest) -ℤ less) +ℤ more
gave_way rest less more = omega (arith, ints)

beside : (first rest less more : ℤ) → first +ℤ ((rest -ℤ less) +ℤ more) ≡ ((first +ℤ rest) -ℤ less) +ℤ more
beside first rest less more = omega (arith, ints)

stepped_new : (resource : ℕ) (edges : List EdgeLine) (segment : SegmentRecord) → IsStepped resource edges (first_edge segment ∷ edges) None segment
stepped_new resource edges segment = record {
  count = omega (arith, out_count-here (first_edge segment) edges segment.from refl);
  total = out-here (first_edge segment) edges segment.from resource refl ∙ gained (out edges segment.from resource) (weight (first_edge segment) resource);
}

stepped_here : (resource : ℕ) (e : EdgeLine) (edges : List EdgeLine) (segment : SegmentRecord) → e.from ≡ segment.from →
    IsStepped resource (e ∷ edges) (next_edge e segment ∷ edges) (Some e) segment
stepped_here resource e edges segment h = record {
  count = omega (arith, out_count-here (next_edge e segment) edges segment.from h, out_count-here e edges segment.from h);
  total = out-here (next_edge e segment) edges segment.from resource h
      ∙ gave_way (out edges segment.from resource) (weight e resource) (weight (next_edge e segment) resource)
      ∙ ap (λ (z : ℤ). (z -ℤ weight e resource) +ℤ weight (next_edge e segment) resource) (sym (out-here e edges segment.from resource h));
}

stepped_beside : (resource : ℕ) (e : EdgeLine) (old new : List EdgeLine) (before : Option EdgeLine) (segment : SegmentRecord) →
    IsStepped resource old new before segment → IsStepped resource (e ∷ old) (e ∷ new) before segment
stepped_beside resource e old new before segment step = record {
  count = omega (arith, out_count-cons e new segment.from, out_count-cons e old segment.from, step.count);
  total = out-cons e new segment.from resource
      ∙ ap (λ (z : ℤ). part e segment.from resource +ℤ z) step.total
      ∙ beside (part e segment.from resource) (out old segment.from resource) (weight_or_0 before resource) (weight (edge_after before segment) resource)
      ∙ ap (λ (z : ℤ). (z -ℤ weight_or_0 before resource) +ℤ weight (edge_after before segment) resource) (sym (out-cons e old segment.from resource));
}

same_from : (e : EdgeLine) (segment : SegmentRecord) → is_of e segment ≡ true → e.from ≡ segment.from
same_from e segment h = grind (arith, nat_tests)

-- the edges after a record, by where its edge stands
with_before : (e : EdgeLine) (edges : List EdgeLine) (segment : SegmentRecord) → is_before e segment ≡ true → edges_with (e ∷ edges) segment ≡ e ∷ edges_with edges segment
with_before e edges segment h = rw h refl

with_same : (e : EdgeLine) (edges : List EdgeLine) (segment : SegmentRecord) → is_before e segment ≡ false → is_of e segment ≡ true →
    edges_with (e ∷ edges) segment ≡ next_edge e segment ∷ edges
with_same e edges segment h same = rw (h, same) refl

with_new : (e : EdgeLine) (edges : List EdgeLine) (segment : SegmentRecord) → is_before e segment ≡ false → is_of e segment ≡ false →
    edges_with (e ∷ edges) segment ≡ first_edge segment ∷ e ∷ edges
with_new e edges segment h other = rw (h, other) refl

between_here : (e : EdgeLine) (edges : List EdgeLine) (from to : ℕ) → leads from to e ≡ true → edge_between (e ∷ edges) from to ≡ Some e
between_here e edges from to h = rw h refl

between_not : (e : EdgeLine) (edges : List EdgeLine) (from to : ℕ) → leads from to e ≡ false → edge_between (e ∷ edges) from to ≡ edge_between edges from to
between_not e edges from to h = rw h refl

stepped_by : (resource : ℕ) (old new new' : List EdgeLine) (before before' : Option EdgeLine) (segment : SegmentRecord) → new ≡ new' → before ≡ before' →
    IsStepped resource old new' before' segment → IsStepped resource old new before segment
stepped_by resource old new new' before before' segment e f step =
    subst (λ (es : List EdgeLine). IsStepped resource old es before segment) (sym e)
    (subst (λ (b : Option EdgeLine). IsStepped resource old new' b segment) (sym f) step)

stepped : (resource : ℕ) (edges : List EdgeLine) (segment : SegmentRecord) → IsRising edges →
    IsStepped resource edges (edges_with edges segment) (edge_between edges segment.from segment.to) segment
stepped resource [] segment rising = stepped_new resource [] segment
stepped resource (e ∷ edges) segment rising =
    let own = is_of_itself segment in
    let between = edge_between (e ∷ edges) segment.from segment.to in
    by_test (is_before e segment) (IsStepped resource (e ∷ edges) (edges_with (e ∷ edges) segment) between segment)
    (λ before.
    stepped_by resource (e ∷ edges) (edges_with (e ∷ edges) segment) (e ∷ edges_with edges segment) between (edge_between edges segment.from segment.to) segment
    (with_before e edges segment before) (between_not e edges segment.from segment.to (before_leads_not segment.from segment.to e segment own before))
    (stepped_beside resource e edges (edges_with edges segment) (edge_between edges segment.from segment.to) segment (stepped resource edges segment rising.1)))
    (λ later. by_test (is_of e segment) (IsStepped resource (e ∷ edges) (edges_with (e ∷ edges) segment) between segment)
    (λ same.
    stepped_by resource (e ∷ edges) (edges_with (e ∷ edges) segment) (next_edge e segment ∷ edges) between (Some e) segment
    (with_same e edges segment later same) (between_here e edges segment.from segment.to (same_leads segment.from segment.to e segment own same))
    (stepped_here resource e edges segment (same_from e segment same)))
    (λ other.
    stepped_by resource (e ∷ edges) (edges_with (e ∷ edges) segment) (first_edge segment ∷ e ∷ edges) between None segment
    (with_new e edges segment later other)
    (between_not e edges segment.from segment.to (after_leads_not segment.from segment.to e segment own later other)
    ∙ none_later segment.from segment.to e edges segment own later other rising.0)
    (stepped_new resource (e ∷ edges) segment)))

pub sum_of_moved : (edges : List EdgeLine) (segment : SegmentRecord) (old new : NodeSums) → IsRising edges → IsSumOf (edges_from edges segment.from) old →
    IsMoved old new (edge_between edges segment.from segment.to) (edge_after (edge_between edges segment.from segment.to) segment) →
    IsSumOf (edges_from (edges_with edges segment) segment.from) new
sum_of_moved edges segment old new rising sums moved =
    let before = edge_between edges segment.from segment.to in
    record {
      count = let step : IsStepped 0 edges (edges_with edges segment) before segment = stepped 0 edges segment rising in omega (arith, moved.count, sums.count, step.count);
      eight = moved.eight;
      change = λ resource h.
          let step : IsStepped resource edges (edges_with edges segment) before segment = stepped resource edges segment rising in
          moved.change resource h
          ∙ ap (λ (z : ℤ). (z -ℤ weight_or_0 before resource) +ℤ weight (edge_after before segment) resource) (sums.change resource h)
          ∙ sym step.total;
    }

-- ---- the edges from another node

kept_elsewhere : (edges : List EdgeLine) (segment : SegmentRecord) (node : ℕ) → segment.from ≢ node → edges_from (edges_with edges segment) node ≡ edges_from edges node
kept_elsewhere [] segment node ne = edges_from-no (first_edge segment) [] node ne
kept_elsewhere (e ∷ edges) segment node ne =
    by_test (is_before e segment) _
    (λ before.
    ap (λ (es : List EdgeLine). edges_from es node) (with_before e edges segment before)
    ∙ by_test (e.from == node) (edges_from (e ∷ edges_with edges segment) node ≡ edges_from (e ∷ edges) node)
    (λ here. rw here (ap (λ (es : List EdgeLine). e ∷ es) (kept_elsewhere edges segment node ne)))
    (λ elsewhere. rw elsewhere (kept_elsewhere edges segment node ne)))
    (λ later. by_test (is_of e segment) _
    (λ same.
    let apart : e.from ≢ node = λ h. ne (sym (same_from e segment same) ∙ h) in
    ap (λ (es : List EdgeLine). edges_from es node) (with_same e edges segment later same)
    ∙ edges_from-no (next_edge e segment) edges node apart ∙ sym (edges_from-no e edges node apart))
    (λ other.
    ap (λ (es : List EdgeLine). edges_from es node) (with_new e edges segment later other)
    ∙ edges_from-no (first_edge segment) (e ∷ edges) node ne))

pub not_at : (node other : ℕ) → node ≢ other → is_at (nat_cmp node) other ≡ false
not_at node other ne = grind (arith, nat_tests)

pub sums_noted : (edges : List EdgeLine) (segment : SegmentRecord) (old new : BTreeMap ℕ NodeSums) (sums : NodeSums) → AreSumsOf edges old →
    Updates nat_cmp old new segment.from (Some sums) → IsSumOf (edges_from (edges_with edges segment) segment.from) sums → AreSumsOf (edges_with edges segment) new
sums_noted edges segment old new sums kept updates told = λ node.
    ⊎_elim
    (λ same.
    subst (λ n. IsKeptOf (edges_from (edges_with edges segment) n) (get nat_cmp new n)) same
    (subst (λ o. IsKeptOf (edges_from (edges_with edges segment) segment.from) o) (sym updates.1) told))
    (λ ne.
    subst (λ o. IsKeptOf (edges_from (edges_with edges segment) node) o) (sym (updates.2 node (not_at segment.from node ne)))
    (subst (λ es. IsKeptOf es (get nat_cmp old node)) (sym (kept_elsewhere edges segment node ne)) (kept node)))
    (cases_eq segment.from node)

-- ---- ranges

all_from : (edges : List EdgeLine) (node : ℕ) → AllByRecursion IsEdge edges → AllByRecursion IsEdge (edges_from edges node)
all_from [] node all = tt
all_from (e ∷ edges) node all =
    by_test (e.from == node) (AllByRecursion IsEdge (edges_from (e ∷ edges) node))
    (λ here. rw here (all.0, all_from edges node all.1))
    (λ elsewhere. rw elsewhere (all_from edges node all.1))

weighted_change-le : (edges : List EdgeLine) (resource : ℕ) → resource < 8 → AllByRecursion IsEdge edges →
    unsigned_abs (weighted_change edges resource) ≤ count_of edges * 2 ^ 39
weighted_change-le [] resource h all = omega arith
weighted_change-le (e ∷ edges) resource h all =
    let edge : IsEdge e = all.0 in
    let average : unsigned_abs (get_or e.change resource (pos 0)) ≤ 2 ^ 39 = edge.changes resource (pos 0) (omega (arith, edge.eight)) in
    let first : unsigned_abs (weight e resource) ≤ e.count * 2 ^ 39 = weight-le e.count (get_or e.change resource (pos 0)) (2 ^ 39) average in
    let rest : unsigned_abs (weighted_change edges resource) ≤ count_of edges * 2 ^ 39 = weighted_change-le edges resource h all.1 in
    let both : unsigned_abs (weight e resource +ℤ weighted_change edges resource) ≤ e.count * 2 ^ 39 + count_of edges * 2 ^ 39 =
    sum-le (weight e resource) (weighted_change edges resource) (e.count * 2 ^ 39) (count_of edges * 2 ^ 39) first rest in
    let total : unsigned_abs (weighted_change (e ∷ edges) resource) ≤ e.count * 2 ^ 39 + count_of edges * 2 ^ 39 = rw (weighted_change-cons e edges resource) both in
    omega (arith, count_of-cons e edges)

pub change-le : (edges : List EdgeLine) (node resource : ℕ) (sums : NodeSums) → AllByRecursion IsEdge edges → IsSumOf (edges_from edges node) sums → resource < 8 →
    unsigned_abs (get_or sums.change resource (pos 0)) ≤ sums.count * 2 ^ 39
change-le edges node resource sums all told h =
    rw (told.change resource h, told.count) (weighted_change-le (edges_from edges node) resource h (all_from edges node all))

pub count-le : (edges : List EdgeLine) (node : ℕ) (sums : NodeSums) → IsSumOf (edges_from edges node) sums → sums.count ≤ count_of edges
count-le edges node sums told = omega (arith, told.count, count_of-edges_from edges node)

within_more : (edge : Option EdgeLine) (few more : ℕ) → few ≤ more → IfSome edge (λ e. IsEdge e × (e.count ≤ few)) → IfSome edge (λ e. IsEdge e × (e.count ≤ more))
within_more None few more h p = tt
within_more (Some e) few more h p = (p.0, let le : e.count ≤ few = p.1 in omega arith)

pub edge_found : (edges : List EdgeLine) (from to : ℕ) → AllByRecursion IsEdge edges → IfSome (edge_between edges from to) (λ e. IsEdge e × (e.count ≤ count_of edges))
edge_found [] from to all = tt
edge_found (e ∷ edges) from to all =
    by_test (leads from to e) (IfSome (edge_between (e ∷ edges) from to) (λ x. IsEdge x × (x.count ≤ count_of (e ∷ edges))))
    (λ here. rw here (all.0, omega (arith, count_of-cons e edges)))
    (λ elsewhere. rw elsewhere
    (within_more (edge_between edges from to) (count_of edges) (count_of (e ∷ edges)) (omega (arith, count_of-cons e edges)) (edge_found edges from to all.1)))

pub edge_held : (edges : List EdgeLine) (segment : SegmentRecord) (edge : Option EdgeLine) → edge ≡ edge_between edges segment.from segment.to → AllByRecursion IsEdge edges →
    IfSome edge (λ e. IsEdge e × (e.count ≤ count_of edges))
edge_held edges segment edge same all =
    subst (λ (o : Option EdgeLine). IfSome o (λ e. IsEdge e × (e.count ≤ count_of edges))) (sym same) (edge_found edges segment.from segment.to all)

pub edge_with_room : (edge : Option EdgeLine) (count : ℕ) → IfSome edge (λ e. IsEdge e × (e.count ≤ count)) → count < 2 ^ 40 → IfSome edge (λ e. IsEdge e × (e.count < 2 ^ 40))
edge_with_room None count p h = tt
edge_with_room (Some e) count p h = (p.0, let le : e.count ≤ count = p.1 in omega arith)

pub edge_in_range : (edge : Option EdgeLine) (count : ℕ) → IfSome edge (λ e. IsEdge e × (e.count ≤ count)) → count < 2 ^ 40 → IfSome edge (λ e. IsEdge e × (e.count ≤ 2 ^ 40))
edge_in_range None count p h = tt
edge_in_range (Some e) count p h = (p.0, let le : e.count ≤ count = p.1 in omega arith)

pub IsEdge-after : (edge : Option EdgeLine) (segment : SegmentRecord) (count : ℕ) → IfSome edge (λ e. IsEdge e × (e.count ≤ count)) → IsSegment segment →
    length segment.change ≡ 8 → IsEdge (edge_after edge segment)
IsEdge-after None segment count p range eight = IsEdge-first segment range eight
IsEdge-after (Some e) segment count p range eight = IsEdge-next e segment p.0 range eight

pub count_after-le : (edge : Option EdgeLine) (segment : SegmentRecord) (count : ℕ) → IfSome edge (λ e. IsEdge e × (e.count ≤ count)) → count < 2 ^ 40 →
    (edge_after edge segment).count ≤ 2 ^ 40
count_after-le None segment count p h = omega arith
count_after-le (Some e) segment count p h = let le : e.count ≤ count = p.1 in omega arith

-- ---- a prediction, from what is kept

-- what is kept of a node that has sums, or none
pub kept_some : (edges : List EdgeLine) (kept : Option NodeSums) (sums : NodeSums) → kept ≡ Some sums → IsKeptOf edges kept → IsSumOf edges sums
kept_some edges kept sums e h = subst (λ o. IsKeptOf edges o) e h
