-- A program has one call graph and one placement.
use Rattle.one_plan.proofs.Common.{◌≡◌, ℕ, zero, suc, ◌+◌, ◌<◌, max, nat_le, true, false, List, [], ◌∷◌, length, map, filter, slice_index, refl, sym, ap, ◌∙◌, arith, AllByRecursion, FlatCode, GraphSite, call_sites_from, CallGraphState, function_count, IsSiteOf, IsCallGraph, IsRising, by_test, Plan, IsGraphOf, All-weaker}
use Rattle.call_graph.specs.Callees.{callees, greatest}
use Rattle.call_graph.specs.Index.{sites_of}
use Rattle.call_graph.specs.Lists.{has}
use Rattle.call_graph.specs.Paths.{IsAmong}
use Rattle.cycle_break.specs.BackEdges.{back_edges}
use Rattle.cycle_break.specs.Walk.{whole_walk}
use Rattle.cycle_break.proofs.NumberLemmas.{true_false, all-has, has-head, has-tail}
use Rattle.cycle_break.proofs.RankLemmas.{age, call-falls}
use Rattle.cycle_break.proofs.SiteLemmas.{among-all, among-filter, IsOwn, all-own}
use Rattle.checkpoint_place.specs.Placement.{callee_bound, is_within, is_checkpointed, IsPlacement}
use Rattle.stack_plan.proofs.SiteLemmas.{has-number}
use Rattle.one_plan.proofs.RisingLists.{Rises, orders-are-one}
use Rattle.checkpoint_place.proofs.BoundLemmas.{greatest-agree}

-- Graphs.

rises : (sites : List GraphSite) → IsRising sites → Rises (λ (s : GraphSite). s.number) sites
rises [] h = tt
rises (s ∷ sites) h = (h.0, rises sites h.1)

same-graph : (a b : CallGraphState) → a.weights ≡ b.weights → a.tables ≡ b.tables → a.sites ≡ b.sites → a.main ≡ b.main → a ≡ b
same-graph a b w t s m =
    let one : a ≡ record { weights = b.weights; tables = a.tables; sites = a.sites; main = a.main } = ap (λ (x : List ℕ). let r : CallGraphState = record { weights = x; tables = a.tables; sites = a.sites; main = a.main } in r) w in
    let two : record { weights = b.weights; tables = a.tables; sites = a.sites; main = a.main } ≡ record { weights = b.weights; tables = b.tables; sites = a.sites; main = a.main } = ap (λ (x : List (List ℕ)). let r : CallGraphState = record { weights = b.weights; tables = x; sites = a.sites; main = a.main } in r) t in
    let three : record { weights = b.weights; tables = b.tables; sites = a.sites; main = a.main } ≡ record { weights = b.weights; tables = b.tables; sites = b.sites; main = a.main } = ap (λ (x : List GraphSite). let r : CallGraphState = record { weights = b.weights; tables = b.tables; sites = x; main = a.main } in r) s in
    let four : record { weights = b.weights; tables = b.tables; sites = b.sites; main = a.main } ≡ b = ap (λ (x : ℕ). let r : CallGraphState = record { weights = b.weights; tables = b.tables; sites = b.sites; main = x } in r) m in
    one ∙ (two ∙ (three ∙ four))

same-plan : (a b : Plan) → a.checkpointed ≡ b.checkpointed → a.bounds ≡ b.bounds → a ≡ b
same-plan a b c e =
    let one : a ≡ record { checkpointed = b.checkpointed; bounds = a.bounds } = ap (λ (x : List ℕ). let r : Plan = record { checkpointed = x; bounds = a.bounds } in r) c in
    let two : record { checkpointed = b.checkpointed; bounds = a.bounds } ≡ b = ap (λ (x : List ℕ). let r : Plan = record { checkpointed = b.checkpointed; bounds = x } in r) e in
    one ∙ two

pub graphs-are-one : (code : FlatCode) (a b : CallGraphState) → IsGraphOf code a → IsGraphOf code b → a ≡ b
graphs-are-one code a b p q =
    let weights : a.weights ≡ b.weights = p.weights ∙ sym q.weights in
    let tables : a.tables ≡ b.tables = p.tables ∙ sym q.tables in
    let main : a.main ≡ b.main = p.main ∙ sym q.main in
    let sites : a.sites ≡ b.sites = orders-are-one (λ (s : GraphSite). s.number) (call_sites_from 0 code.functions) a.sites b.sites p.sites q.sites (rises a.sites p.rising) (rises b.sites q.rising) in
    same-graph a b weights tables sites main

-- Bounds.

bound-same : (tables : List (List ℕ)) (f g : ℕ → ℕ) (path weight : ℕ) (sites : List GraphSite) → AllByRecursion (λ s. callee_bound tables f s ≡ callee_bound tables g s) sites →
    greatest (callee_bound tables f) (filter (is_within tables f path weight) sites) ≡ greatest (callee_bound tables g) (filter (is_within tables g path weight) sites)
bound-same tables f g path weight [] h = refl
bound-same tables f g path weight (s ∷ sites) h =
    let rest = bound-same tables f g path weight sites h.1 in
    let here : callee_bound tables f s ≡ callee_bound tables g s = h.0 in
    let test : is_within tables f path weight s ≡ is_within tables g path weight s = ap (λ n. nat_le (weight + n) path) here in
    by_test (is_within tables g path weight s)
    (λ t. let u : is_within tables f path weight s ≡ true = test ∙ t in rw (t, u) (rw here (ap (max (callee_bound tables g s)) rest)))
    (λ e. let u : is_within tables f path weight s ≡ false = test ∙ e in rw (e, u) rest)

all-from-has : (P : ℕ → Type 0) (xs : List ℕ) → ((x : ℕ) → has x xs ≡ true → P x) → AllByRecursion P xs
all-from-has P [] h = tt
all-from-has P (x ∷ xs) h = (h x (has-head x xs), all-from-has P xs (λ y e. h y (has-tail y x xs e)))

module _ (graph : CallGraphState) (kept : IsCallGraph graph) (path : ℕ) (p q : Plan) (first : IsPlacement graph (back_edges graph) path p) (second : IsPlacement graph (back_edges graph) path q) where
  not-back : (s : GraphSite) → IsAmong graph.sites s → has s.number (back_edges graph) ≡ false → has s.number (whole_walk graph []).back ≡ false
  not-back s among h =
      by_test (has s.number (whole_walk graph []).back)
      (λ t. true_false (has s.number (back_edges graph))
      (has-number (filter (λ x. has x.number (whole_walk graph []).back) graph.sites) s (among-filter (λ x. has x.number (whole_walk graph []).back) graph.sites s among t)) h)
      (λ e. e)

  falls : (f : ℕ) (s : GraphSite) (callee : ℕ) → IsOwn graph.sites (back_edges graph) f s → has callee (callees graph.tables s.target) ≡ true → age (whole_walk graph []).left callee < age (whole_walk graph []).left f
  falls f s callee own is =
      call-falls graph [] kept f (record { site = s; callee = callee }) (record { site = own.among; caller = own.caller; kept = refl; callee = is }) (not-back s own.among own.kept)

  there : (f : ℕ) (s : GraphSite) (callee : ℕ) → IsOwn graph.sites (back_edges graph) f s → has callee (callees graph.tables s.target) ≡ true → callee < function_count graph
  there f s callee own is =
      let site = among-all (IsSiteOf (function_count graph) graph.tables) graph.sites s kept.sites own.among in
      all-has (λ c. c < function_count graph) (callees graph.tables s.target) callee site.target.all is

  -- the bounds of functions of less than this age are one
  bounds-below : (n f : ℕ) → age (whole_walk graph []).left f < n → f < function_count graph → slice_index p.bounds f ≡ slice_index q.bounds f
  bounds-below zero f h within = absurd (omega arith)
  bounds-below (suc n) f h within =
      let own = all-own graph.sites (back_edges graph) f in
      let same = All-weaker (IsOwn graph.sites (back_edges graph) f) (λ s. callee_bound graph.tables (slice_index p.bounds) s ≡ callee_bound graph.tables (slice_index q.bounds) s)
      (λ s is. greatest-agree (slice_index p.bounds) (slice_index q.bounds) (callees graph.tables s.target)
      (all-from-has (λ c. slice_index p.bounds c ≡ slice_index q.bounds c) (callees graph.tables s.target)
      (λ c e. bounds-below n c (omega (arith, falls f s c is e)) (there f s c is e))))
      (sites_of graph.sites (back_edges graph) f) own in
      let bounds = bound-same graph.tables (slice_index p.bounds) (slice_index q.bounds) path (slice_index graph.weights f) (sites_of graph.sites (back_edges graph) f) same in
      first.bounds f within ∙ (ap (λ n. slice_index graph.weights f + n) bounds ∙ sym (second.bounds f within))

  bounds-at : (f : ℕ) → f < function_count graph → slice_index p.bounds f ≡ slice_index q.bounds f
  bounds-at f within = bounds-below (suc (age (whole_walk graph []).left f)) f (omega arith) within

same-lists : (xs ys : List ℕ) → length xs ≡ length ys → ((k : ℕ) → k < length xs → slice_index xs k ≡ slice_index ys k) → xs ≡ ys
same-lists [] [] e h = refl
same-lists (x ∷ xs) (y ∷ ys) e h =
    let here : x ≡ y = h 0 (omega arith) in
    let rest = same-lists xs ys (omega arith) (λ k lt. h (suc k) (omega arith)) in
    cc
same-lists _ _ e h = absurd (omega arith)

pub placements-are-one : (graph : CallGraphState) (path : ℕ) (p q : Plan) → IsCallGraph graph → IsPlacement graph (back_edges graph) path p → IsPlacement graph (back_edges graph) path q → p ≡ q
placements-are-one graph path p q kept first second =
    let bounds : p.bounds ≡ q.bounds = same-lists p.bounds q.bounds (first.each ∙ sym second.each) (λ k lt. bounds-at graph kept path p q first second k (let e = first.each in omega arith)) in
    let checkpointed : p.checkpointed ≡ q.checkpointed =
    first.checkpointed ∙ (ap (λ (bs : List ℕ). map (λ (site : GraphSite). site.number) (filter (is_checkpointed graph (back_edges graph) path (slice_index bs)) graph.sites)) bounds ∙ sym second.checkpointed) in
    same-plan p q checkpointed bounds
