-- A placement gives all that code relies on in a plan.
use Rattle.stack_plan.proofs.Common.{◌≡◌, ℕ, zero, suc, ◌+◌, ◌<◌, ◌≤◌, Bool, true, false, not, List, [], ◌∷◌, length, map, filter, refl, ap, subst, ◌∙◌, arith, ◌||◌, Option, Some, None, Ok, Err, IfSome, slice_index, slice_index_or, All, nat_tests, FlatFunction, weight_of, GraphSite, callees, greatest, call_site, call_sites_from, CallGraphState, function_count, IsSiteOf, IsCallGraph, has, IsAmong, by_test, true_false, is_too_large, refusal_from, IsGraphOf, IsEnough, greatest-among}
use Rattle.std.proofs.lemmas.List.Elements.{All-from_recursion, recursion_from_All}
use Rattle.std.proofs.lemmas.List.Sorted.{All-permutation, IsPermutation-sym}
use Rattle.flat_code.specs.Codes.{FlatCode, function_at}
use Rattle.call_graph.specs.Index.{sites_of}
use Rattle.cycle_break.proofs.SiteLemmas.{all-among, among-all, among-filter, rising-filter, own-among}
use Rattle.checkpoint_place.specs.declared.plans.Plan.{Plan}
use Rattle.checkpoint_place.specs.declared.refusals.PlaceError.{PlaceError}
use Rattle.checkpoint_place.specs.Placement.{callee_bound, is_within, is_checkpointed, IsPlacement}
use Rattle.stack_plan.proofs.SiteLemmas.{has-number, numbers-rise, greatest-within, site-among, function-there, site-caller}

-- ---- weights

pub weight-at : (fs : List FlatFunction) (f : ℕ) → f < length fs → slice_index (map (λ g. weight_of g.sizes) fs) f ≡ weight_of (slice_index_or fs f (record { params = 0; gives = false; sizes = []; ops = [] })).sizes
weight-at [] f h = absurd (omega arith)
weight-at (g ∷ gs) zero h = refl
weight-at (g ∷ gs) (suc f) h = weight-at gs f (omega arith)

pub weights-count : (fs : List FlatFunction) → length (map (λ g. weight_of g.sizes) fs) ≡ length fs
weights-count [] = refl
weights-count (f ∷ fs) = omega (arith, weights-count fs)

large-tests : (max_path w : ℕ) → is_too_large max_path w ≡ false → (w ≤ max_path) × (w ≤ 2032)
large-tests max_path w h = (grind (arith, nat_tests), grind (arith, nat_tests))

none-too-large : (max_path base : ℕ) (ws : List ℕ) → refusal_from max_path base ws ≡ None → (f : ℕ) → f < length ws → (slice_index ws f ≤ max_path) × (slice_index ws f ≤ 2032)
none-too-large max_path base [] h f within = absurd (omega arith)
none-too-large max_path base (w ∷ ws) h zero within =
    by_test (is_too_large max_path w) (λ t. let no = rw t at h in cc) (λ e. large-tests max_path w e)
none-too-large max_path base (w ∷ ws) h (suc f) within =
    by_test (is_too_large max_path w)
    (λ t. let no = rw t at h in cc)
    (λ e. let rest : refusal_from max_path (base + 1) ws ≡ None = rw e at h in none-too-large max_path (base + 1) ws rest f (omega arith))

zero-plus : (f : ℕ) → 0 + f ≡ f
zero-plus f = omega arith

-- a plan that came was not refused
pub not-refused : (o : Option PlaceError) (plan : Plan) → IfSome o (λ e. Ok plan ≡ Err e) → o ≡ None
not-refused None plan h = refl
not-refused (Some e) plan h = cc

neither : (a b : Bool) → (a || not b) ≡ false → (a ≡ false) × (b ≡ true)
neither false true e = (refl, refl)
neither _ _ e = cc

-- ---- plans

module _ (code : FlatCode) (graph : CallGraphState) (back : List ℕ) (max_path : ℕ) (plan : Plan) (is : IsGraphOf code graph) (kept : IsCallGraph graph) (placed : IsPlacement graph back max_path plan) (none : refusal_from max_path 0 graph.weights ≡ None) where
  abbrev bound : ℕ → ℕ
  bound f = slice_index plan.bounds f

  abbrev weight : ℕ → ℕ
  weight f = slice_index graph.weights f

  -- a site that isn't checkpointed is no back edge, and is within a path
  not-checkpointed : (s : GraphSite) → IsAmong graph.sites s → has s.number plan.checkpointed ≡ false → is_checkpointed graph back max_path bound s ≡ false
  not-checkpointed s among out =
      by_test (is_checkpointed graph back max_path bound s)
      (λ t. true_false (has s.number plan.checkpointed)
      (rw placed.checkpointed (has-number (filter (is_checkpointed graph back max_path bound) graph.sites) s (among-filter (is_checkpointed graph back max_path bound) graph.sites s among t))) out)
      (λ e. e)

  -- its caller's frame and what it calls are within the caller's bound
  call-within : (s : GraphSite) → IsAmong graph.sites s → has s.number plan.checkpointed ≡ false → weight s.caller + greatest bound (callees graph.tables s.target) ≤ bound s.caller
  call-within s among out =
      let tests = neither (has s.number back) (is_within graph.tables bound max_path (weight s.caller) s) (not-checkpointed s among out) in
      let there : s.caller < function_count graph = (among-all (IsSiteOf (function_count graph) graph.tables) graph.sites s kept.sites among).caller in
      let own = own-among graph.sites back s among tests.0 in
      let counted = among-filter (is_within graph.tables bound max_path (weight s.caller)) (sites_of graph.sites back s.caller) s own tests.1 in
      let most = greatest-among (callee_bound graph.tables bound) (filter (is_within graph.tables bound max_path (weight s.caller)) (sites_of graph.sites back s.caller)) s counted in
      omega (arith, placed.bounds s.caller there, most)

  -- each site of the text is one of the graph's
  text-among : (s : GraphSite) → IsAmong (call_sites_from 0 code.functions) s → IsAmong graph.sites s
  text-among s among =
      let all : All (IsAmong graph.sites) graph.sites = All-from_recursion (IsAmong graph.sites) graph.sites (all-among graph.sites) in
      let text : All (IsAmong graph.sites) (call_sites_from 0 code.functions) =
      All-permutation (IsAmong graph.sites) graph.sites (call_sites_from 0 code.functions) (IsPermutation-sym (call_sites_from 0 code.functions) graph.sites is.sites) all in
      among-all (IsAmong graph.sites) (call_sites_from 0 code.functions) s (recursion_from_All (IsAmong graph.sites) (call_sites_from 0 code.functions) text) among

  count : function_count graph ≡ length code.functions
  count = ap length is.weights ∙ weights-count code.functions

  frame-is : (f : ℕ) → f < length code.functions → weight f ≡ weight_of (function_at code f).sizes
  frame-is f h = ap (λ (ws : List ℕ). slice_index ws f) is.weights ∙ weight-at code.functions f h

  small : (f : ℕ) → f < length code.functions → (weight f ≤ max_path) × (weight f ≤ 2032)
  small f h = none-too-large max_path 0 graph.weights none f (omega (arith, count))

  pub enough : IsEnough code max_path plan
  enough = record {
    each = placed.each ∙ count;
    rising = rw placed.checkpointed (numbers-rise (filter (is_checkpointed graph back max_path bound) graph.sites) (rising-filter (is_checkpointed graph back max_path bound) graph.sites is.rising));
    frame = λ f h. omega (arith, frame-is f h, (small f h).1);
    bound = λ f h. let there : f < function_count graph = omega (arith, count) in omega (arith, frame-is f h, placed.bounds f there);
    most = λ f h.
        let there : f < function_count graph = omega (arith, count) in
        omega (arith, placed.bounds f there, greatest-within (callee_bound graph.tables bound) (weight f) max_path (sites_of graph.sites back f) (small f h).0);
    plain = λ f i op s here call out.
        let there = function-there code.functions f i op here in
        let caller = site-caller f op s call in
        let among = text-among s (site-among 0 code.functions f i op s here (ap (λ n. call_site n op) (zero-plus f) ∙ call)) in
        let within = call-within s among out in
        let tables : greatest bound (callees graph.tables s.target) ≡ greatest bound (callees code.tables s.target) = ap (λ ts. greatest bound (callees ts s.target)) is.tables in
        let own : weight f + greatest bound (callees graph.tables s.target) ≤ bound f = subst (λ n. weight n + greatest bound (callees graph.tables s.target) ≤ bound n) caller within in
        omega (arith, frame-is f there, tables, own);
  }
