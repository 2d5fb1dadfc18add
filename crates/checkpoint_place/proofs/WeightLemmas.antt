-- A bound is the greatest weight of a path of calls that passes no checkpoint.
use Rattle.checkpoint_place.proofs.Common.{◌≡◌, inl, inr, ℕ, ◌+◌, ◌<◌, ◌≤◌, nat_le, Bool, true, false, List, [], ◌∷◌, length, map, filter, slice_index, refl, sym, ap, ◌∙◌, subst, arith, nat_tests, AllByRecursion, GraphSite, callees, greatest, CallGraphState, function_count, IsSiteOf, IsCallGraph, sites_of, has, by_test, CallsOnly, IsBottomUp, all-has, has-cases, has-head, has-tail, true_false, callee_bound, is_within, is_checkpointed, IsPlacement}
use Rattle.call_graph.specs.Paths.{Call, IsAmong, IsCallBy, IsPath, weight_along}
use Rattle.cycle_break.proofs.SiteLemmas.{IsOwn, all-own, own-among, among-all, among-filter, same-number}
use Rattle.checkpoint_place.specs.declared.plans.Plan.{Plan}
use Rattle.checkpoint_place.specs.Weights.{IsWeightOfPath, IsGreatestWeight}

-- ---- the greatest of some values

greatest-has : (v : ℕ → ℕ) (cs : List ℕ) (c : ℕ) → has c cs ≡ true → v c ≤ greatest v cs
greatest-has v [] c h = true_false false h refl
greatest-has v (d ∷ cs) c h =
    has-cases c d cs h
    (λ e. subst (λ n. v n ≤ greatest v (d ∷ cs)) e (omega arith))
    (λ rest. omega (arith, greatest-has v cs c rest))

pub greatest-among : (v : GraphSite → ℕ) (ss : List GraphSite) (s : GraphSite) → IsAmong ss s → v s ≤ greatest v ss
greatest-among v [] s h = absurd h
greatest-among v (t ∷ ss) s h = elim h [
  | inl e ↦ subst (λ x. v x ≤ greatest v (t ∷ ss)) e (omega arith)
  | inr rest ↦ omega (arith, greatest-among v ss s rest)
]

record IsMost (v : ℕ → ℕ) (cs : List ℕ) : Type 0 where
  pub callee : ℕ
  pub here : has callee cs ≡ true
  pub most : v callee ≡ greatest v cs

some-most : (v : ℕ → ℕ) (cs : List ℕ) → 0 < length cs → IsMost v cs
some-most v [] some = absurd (omega arith)
some-most v (c ∷ []) some = record { callee = c; here = has-head c []; most = omega arith }
some-most v (c ∷ d ∷ cs) some =
    let rest = some-most v (d ∷ cs) (omega arith) in
    by_test (nat_le (greatest v (d ∷ cs)) (v c))
    (λ t. let le : greatest v (d ∷ cs) ≤ v c = grind (arith, nat_tests) in record { callee = c; here = has-head c (d ∷ cs); most = omega (arith, le) })
    (λ e. let lt : v c < greatest v (d ∷ cs) = grind (arith, nat_tests) in
    record { callee = rest.callee; here = has-tail rest.callee c (d ∷ cs) rest.here; most = rest.most ∙ omega (arith, lt) })

record IsMostSite (v : GraphSite → ℕ) (ss : List GraphSite) : Type 0 where
  pub site : GraphSite
  pub here : IsAmong ss site
  pub most : v site ≡ greatest v ss

some-most-site : (v : GraphSite → ℕ) (s : GraphSite) (ss : List GraphSite) → IsMostSite v (s ∷ ss)
some-most-site v s [] = record { site = s; here = inl refl; most = omega arith }
some-most-site v s (t ∷ ss) =
    let rest = some-most-site v t ss in
    by_test (nat_le (greatest v (t ∷ ss)) (v s))
    (λ y. let le : greatest v (t ∷ ss) ≤ v s = grind (arith, nat_tests) in record { site = s; here = inl refl; most = omega (arith, le) })
    (λ e. let lt : v s < greatest v (t ∷ ss) = grind (arith, nat_tests) in
    record { site = rest.site; here = inr rest.here; most = rest.most ∙ omega (arith, lt) })

-- ---- numbers of sites

has-number : (ss : List GraphSite) (s : GraphSite) → IsAmong ss s → has s.number (map (λ x. x.number) ss) ≡ true
has-number [] s h = absurd h
has-number (t ∷ ss) s h = elim h [
  | inl e ↦ rw e (has-head s.number (map (λ x. x.number) ss))
  | inr rest ↦ has-tail s.number t.number (map (λ x. x.number) ss) (has-number ss s rest)
]

record IsNumberOf (ss : List GraphSite) (n : ℕ) : Type 0 where
  pub site : GraphSite
  pub here : IsAmong ss site
  pub number : site.number ≡ n

number-of : (ss : List GraphSite) (n : ℕ) → has n (map (λ x. x.number) ss) ≡ true → IsNumberOf ss n
number-of [] n h = true_false false h refl
number-of (s ∷ ss) n h =
    has-cases n s.number (map (λ x. x.number) ss) h
    (λ e. record { site = s; here = inl refl; number = e })
    (λ rest. let found = number-of ss n rest in record { site = found.site; here = inr found.here; number = found.number })

among-test : (p : GraphSite → Bool) (xs : List GraphSite) (s : GraphSite) → IsAmong (filter p xs) s → IsAmong xs s × (p s ≡ true)
among-test p [] s h = absurd h
among-test p (x ∷ xs) s h =
    by_test (p x)
    (λ t. let h' : IsAmong (x ∷ filter p xs) s = rw t at h in elim h' [
      | inl e ↦ (inl e, subst (λ y. p y ≡ true) e t)
      | inr rest ↦ let found = among-test p xs s rest in (inr found.0, found.1)
    ])
    (λ e. let rest : IsAmong (filter p xs) s = rw e at h in let found = among-test p xs s rest in (inr found.0, found.1))

-- ---- the plan

module _ (graph : CallGraphState) (back : List ℕ) (max_path : ℕ) (plan : Plan) (kept : IsCallGraph graph) (placed : IsPlacement graph back max_path plan) where
  abbrev bound : ℕ → ℕ
  bound = slice_index plan.bounds

  abbrev weight : ℕ → ℕ
  weight = slice_index graph.weights

  abbrev below : GraphSite → ℕ
  below = callee_bound graph.tables bound

  -- a function's plain sites
  abbrev plain : ℕ → List GraphSite
  plain f = filter (is_within graph.tables bound max_path (weight f)) (sites_of graph.sites back f)

  -- a site that isn't checkpointed is plain
  plain-from : (f : ℕ) (call : Call) → IsCallBy graph plan.checkpointed f call → IsAmong (plain f) call.site
  plain-from f call by =
      let s = call.site in
      let over : is_checkpointed graph back max_path bound s ≡ false =
      by_test (is_checkpointed graph back max_path bound s)
      (λ t. true_false (has s.number plan.checkpointed)
      (ap (has s.number) placed.checkpointed ∙ has-number (filter (is_checkpointed graph back max_path bound) graph.sites) s (among-filter (is_checkpointed graph back max_path bound) graph.sites s by.site t)) by.kept)
      (λ e. e) in
      let forward : has s.number back ≡ false = by_test (has s.number back) (λ t. true_false true refl (let z : true ≡ false = rw t at over in z)) (λ e. e) in
      let within : is_within graph.tables bound max_path (weight s.caller) s ≡ true =
      by_test (is_within graph.tables bound max_path (weight s.caller) s) (λ t. t) (λ e. true_false true refl (let z : true ≡ false = rw (forward, e) at over in z)) in
      subst (λ n. IsAmong (plain n) s) by.caller
      (among-filter (is_within graph.tables bound max_path (weight s.caller)) (sites_of graph.sites back s.caller) s (own-among graph.sites back s by.site forward) within)

  -- a plain site isn't checkpointed
  call-from : (f : ℕ) (s : GraphSite) (c : ℕ) → IsAmong (plain f) s → has c (callees graph.tables s.target) ≡ true → IsCallBy graph plan.checkpointed f (record { site = s; callee = c })
  call-from f s c among h =
      let test = among-test (is_within graph.tables bound max_path (weight f)) (sites_of graph.sites back f) s among in
      let own = among-all (IsOwn graph.sites back f) (sites_of graph.sites back f) s (all-own graph.sites back f) test.0 in
      let within : is_within graph.tables bound max_path (weight s.caller) s ≡ true = rw own.caller test.1 in
      record {
        site = own.among;
        caller = own.caller;
        kept = by_test (has s.number plan.checkpointed)
            (λ t. let found = number-of (filter (is_checkpointed graph back max_path bound) graph.sites) s.number (sym (ap (has s.number) placed.checkpointed) ∙ t) in
            let over = among-test (is_checkpointed graph back max_path bound) graph.sites found.site found.here in
            let same : found.site ≡ s = same-number graph.sites found.site s kept.rising over.0 own.among found.number in
            let over' : is_checkpointed graph back max_path bound s ≡ true = subst (λ x. is_checkpointed graph back max_path bound x ≡ true) same over.1 in
            true_false false (let z : false ≡ true = rw (own.kept, within) at over' in z) refl)
            (λ e. e);
        callee = h;
      }

  site-of : (f : ℕ) (call : Call) → IsCallBy graph plan.checkpointed f call → IsSiteOf (function_count graph) graph.tables call.site
  site-of f call by = among-all (IsSiteOf (function_count graph) graph.tables) graph.sites call.site kept.sites by.site

  at-most : (f : ℕ) (calls : List Call) (to : ℕ) → f < function_count graph → IsPath graph plan.checkpointed f calls to → weight_along graph f calls ≤ bound f
  at-most f [] to lt path = omega (arith, placed.bounds f lt)
  at-most f (call ∷ calls) to lt path =
      let site = site-of f call path.0 in
      let callee : call.callee < function_count graph = all-has (λ c. c < function_count graph) (callees graph.tables call.site.target) call.callee site.target.all path.0.callee in
      let rest = at-most call.callee calls to callee path.1 in
      let one = greatest-has bound (callees graph.tables call.site.target) call.callee path.0.callee in
      let two = greatest-among below (plain f) call.site (plain-from f call path.0) in
      omega (arith, rest, one, two, placed.bounds f lt)

  -- a path from a function whose callees have theirs
  extended : (f : ℕ) (earlier : List ℕ) (ss : List GraphSite) → plain f ≡ ss → f < function_count graph → CallsOnly graph back earlier f →
      ((c : ℕ) → has c earlier ≡ true → IsWeightOfPath graph plan.checkpointed c (bound c)) → IsWeightOfPath graph plan.checkpointed f (bound f)
  extended f earlier [] none lt calls each =
      let alone : bound f ≡ weight f = placed.bounds f lt ∙ ap (λ (ss : List GraphSite). weight f + greatest below ss) none ∙ omega arith in
      record { calls = []; to = f; path = refl; sum = sym alone }
  extended f earlier (s ∷ ss) some lt calls each =
      let most = some-most-site below s ss in
      let here : IsAmong (plain f) most.site = rw some most.here in
      let test = among-test (is_within graph.tables bound max_path (weight f)) (sites_of graph.sites back f) most.site here in
      let own = among-all (IsOwn graph.sites back f) (sites_of graph.sites back f) most.site (all-own graph.sites back f) test.0 in
      let site = among-all (IsSiteOf (function_count graph) graph.tables) graph.sites most.site kept.sites own.among in
      let callee = some-most bound (callees graph.tables most.site.target) site.target.some in
      let early : has callee.callee earlier ≡ true =
      all-has (λ c. has c earlier ≡ true) (callees graph.tables most.site.target) callee.callee
      (among-all (λ t. AllByRecursion (λ c. has c earlier ≡ true) (callees graph.tables t.target)) (sites_of graph.sites back f) most.site calls test.0) callee.here in
      let rest = each callee.callee early in
      let value : bound f ≡ weight f + bound callee.callee =
      placed.bounds f lt ∙ ap (λ (ts : List GraphSite). weight f + greatest below ts) some ∙ ap (λ n. weight f + n) (sym most.most ∙ sym callee.most) in
      record {
        calls = record { site = most.site; callee = callee.callee } ∷ rest.calls;
        to = rest.to;
        path = (call-from f most.site callee.callee here callee.here, rest.path);
        sum = ap (λ n. weight f + n) rest.sum ∙ sym value;
      }

  attained : (order : List ℕ) → IsBottomUp graph back order → AllByRecursion (λ f. f < function_count graph) order → (f : ℕ) → has f order ≡ true → IsWeightOfPath graph plan.checkpointed f (bound f)
  attained [] up small f h = true_false false h refl
  attained (x ∷ order) up small f h =
      has-cases f x order h
      (λ e. subst (λ n. IsWeightOfPath graph plan.checkpointed n (bound n)) e (extended x order (plain x) refl small.0 up.0 (attained order up.1 small.1)))
      (λ rest. attained order up.1 small.1 f rest)

  pub greatest-weight : (order : List ℕ) → IsBottomUp graph back order → AllByRecursion (λ f. f < function_count graph) order → (f : ℕ) → f < function_count graph → has f order ≡ true →
      IsGreatestWeight graph plan.checkpointed f (bound f)
  greatest-weight order up small f lt h = record {
    most = λ calls to path. at-most f calls to lt path;
    some = attained order up small f h;
  }
