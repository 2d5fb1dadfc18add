-- A call graph has a placement: bounds, in the order in which the walk leaves the functions.
use Rattle.decisions.proofs.Common.{◌≡◌, ◌∙◌, ℕ, zero, suc, ◌+◌, ◌<◌, ◌≤◌, ◌⊎◌, inl, inr, true, false, List, [], ◌∷◌, length, map, get_or, set, take, reverse, replicate, refl, sym, ap, subst, arith, slice_index, filter, ◌==◌, AllByRecursion, length-set, cases_lt, ne_eqb, get_or_past, take_all, reverse-reverse, length-replicate, GraphSite, greatest, CallGraphState, function_count, IsSiteOf, IsCallGraph, has, back_edges, IsBottomUp, whole_walk, whole_walk-is, whole_walk-up, Plan}
use Rattle.call_graph.specs.Index.{sites_of}
use Rattle.cycle_break.proofs.RankLemmas.{back_edges-break}
use Rattle.checkpoint_place.specs.Placement.{callee_bound, is_within, is_checkpointed, IsPlacement}
use Rattle.checkpoint_place.proofs.BoundLemmas.{bound_by, AreBound, AreBound-more}
use Rattle.cycle_break.proofs.BottomUpOrders.{reverse-more}
use Rattle.cycle_break.proofs.NumberLemmas.{has-cases, true_false}

-- no site is called from past the last function
none_past : (ss : List GraphSite) (back : List ℕ) (tables : List (List ℕ)) (count f : ℕ) → AllByRecursion (IsSiteOf count tables) ss → count ≤ f → sites_of ss back f ≡ []
none_past [] back tables count f all past = refl
none_past (s ∷ ss) back tables count f all past =
    let inside = all.0.caller in
    let other : (s.caller == f) ≡ false = ne_eqb s.caller f (λ e. omega (arith, inside, past, e)) in
    rw other (none_past ss back tables count f all.1 past)

module _ (graph : CallGraphState) (kept : IsCallGraph graph) (back : List ℕ) (max_path : ℕ) where
  abbrev Bound : List ℕ → ℕ → Type 0
  Bound bounds f = get_or bounds f 0 ≡ bound_by graph back max_path (slice_index bounds) f

  -- past the last function all is 0
  past_bound : (bounds : List ℕ) (f : ℕ) → length bounds ≡ function_count graph → function_count graph ≤ f → Bound bounds f
  past_bound bounds f each past =
      let weight : slice_index graph.weights f ≡ 0 = get_or_past graph.weights f 0 past in
      let none : sites_of graph.sites back f ≡ [] = none_past graph.sites back graph.tables (function_count graph) f kept.sites past in
      let value : slice_index graph.weights f + 0 ≡ 0 = omega (arith, weight) in
      let by : bound_by graph back max_path (slice_index bounds) f ≡ slice_index graph.weights f + 0 =
      ap (λ (ss : List GraphSite). slice_index graph.weights f + greatest (callee_bound graph.tables (slice_index bounds)) (filter (is_within graph.tables (slice_index bounds) max_path (slice_index graph.weights f)) ss)) none in
      get_or_past bounds f 0 (omega (arith, each, past)) ∙ sym (by ∙ value)

  pub record AreBounded (done : List ℕ) : Type 0 where
    pub bounds : List ℕ
    pub each : length bounds ≡ function_count graph
    pub bound : AreBound graph back max_path done bounds

  module _ (order : List ℕ) (up : IsBottomUp graph back (reverse order)) where
    one_more : (i : ℕ) → i < length order → AreBounded (reverse (take i order)) → (get_or order i 0 < function_count graph) ⊎ (function_count graph ≤ get_or order i 0) → AreBounded (reverse (take (i + 1) order))
    one_more i within b (inl below) =
        let f = get_or order i 0 in
        let value = bound_by graph back max_path (slice_index b.bounds) f in
        let inside : get_or order i 0 < length b.bounds = (let e = b.each in omega (arith, below, e)) in
        record {
          bounds = set b.bounds f value;
          each = length-set b.bounds f value ∙ b.each;
          bound = AreBound-more graph back max_path order b.bounds i value within inside up b.bound refl;
        }
    one_more i within b (inr past) =
        let f = get_or order i 0 in
        let done = reverse (take i order) in
        record {
          bounds = b.bounds;
          each = b.each;
          bound = λ g h. has-cases g f done (subst (λ (l : List ℕ). has g l ≡ true) (reverse-more order i within) h)
              (λ same. subst (λ (n : ℕ). Bound b.bounds n) same (past_bound b.bounds f b.each past))
              (λ was. b.bound g was);
        }

    bounded : (i : ℕ) → i ≤ length order → AreBounded (reverse (take i order))
    bounded zero within = record { bounds = replicate (function_count graph) 0; each = length-replicate (function_count graph) 0; bound = λ f h. absurd (true_false false h refl) }
    bounded (suc i) within =
        let next : i + 1 ≡ suc i = omega arith in
        subst (λ (n : ℕ). AreBounded (reverse (take n order))) next
        (one_more i (omega (arith, within)) (bounded i (omega (arith, within))) (cases_lt (get_or order i 0) (function_count graph)))

-- ---- the placement

pub record APlacement (graph : CallGraphState) (back : List ℕ) (max_path : ℕ) : Type 0 where
  pub plan : Plan
  pub is : IsPlacement graph back max_path plan

placed : (graph : CallGraphState) (kept : IsCallGraph graph) (back left : List ℕ) (max_path : ℕ) → IsBottomUp graph back left → ((f : ℕ) → f < function_count graph → has f left ≡ true) → APlacement graph back max_path
placed graph kept back left max_path up all =
    let order = reverse left in
    let whole : reverse order ≡ left = reverse-reverse left in
    let b = bounded graph kept back max_path order (subst (IsBottomUp graph back) (sym whole) up) (length order) (omega arith) in
    let taken : take (length order) order ≡ order = take_all (length order) order (omega arith) in
    record {
      plan = record { bounds = b.bounds; checkpointed = map (λ (site : GraphSite). site.number) (filter (is_checkpointed graph back max_path (slice_index b.bounds)) graph.sites) };
      is = record {
        each = b.each;
        bounds = λ f h. b.bound f (ap (λ (l : List ℕ). has f (reverse l)) taken ∙ (ap (has f) whole ∙ all f h));
        checkpointed = refl;
      };
    }

pub a_placement : (graph : CallGraphState) (max_path : ℕ) → IsCallGraph graph → APlacement graph (back_edges graph) max_path
a_placement graph max_path kept =
    placed graph kept (back_edges graph) (whole_walk graph (back_edges graph)).left max_path
    (whole_walk-up graph (back_edges graph) kept (back_edges-break graph kept)) (whole_walk-is graph (back_edges graph) kept).all
