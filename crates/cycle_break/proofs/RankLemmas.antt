-- A site is a back edge exactly where a callee is left no earlier than its caller; so no path without back edges is a cycle.
use Rattle.cycle_break.proofs.Common.{◌≡◌, inl, inr, ℕ, zero, suc, ◌+◌, ◌<◌, ◌≤◌, ◌==◌, ◌||◌, nat_lt, nat_le, max, Bool, true, false, not, if◌then◌else◌, List, [], ◌∷◌, ◌++◌, length, map, filter, reverse, get_or, slice_index, refl, sym, ap, ◌∙◌, subst, arith, nat_tests, length-reverse, reverse-append, reverse-reverse, AllByRecursion, IsStrictlyIncreasing, GraphSite, callees, greatest, CallGraphState, function_count, IsSiteOf, IsCallGraph, IsRising, Call, IsAmong, IsCallBy, IsPath, BreaksEveryCycle, has, by_test, back_edges, place_from, rank, is_later, Walked, whole_walk}
use Rattle.cycle_break.proofs.NumberLemmas.{all-has, has-head, not_has, true_false}
use Rattle.cycle_break.proofs.SiteLemmas.{among-all, among-filter, rising-filter}
use Rattle.cycle_break.proofs.WalkLemmas.{is_late, IsSettled, AreSettled, whole_walk-is}

-- ---- ranks

-- how many functions were left by the time when a function was first left, it included; the last to be left comes first
abbrev pub age : List ℕ → ℕ → ℕ
age [] f = 0
age (x ∷ xs) f = if has f xs then age xs f else (if x == f then suc (length xs) else 0)

-- the functions that were left before a function was
abbrev pub older_of : List ℕ → ℕ → List ℕ
older_of [] f = []
older_of (x ∷ xs) f = if has f xs then older_of xs f else xs

age-bounds : (left : List ℕ) (f : ℕ) → has f left ≡ true → (1 ≤ age left f) × (age left f ≤ length left)
age-bounds [] f h = true_false false h refl
age-bounds (x ∷ xs) f h =
    by_test (has f xs)
    (λ t. let rest = age-bounds xs f t in rw t (rest.0, omega (arith, rest.1)))
    (λ e. let here : (x == f) ≡ true = by_test (x == f) (λ t. t) (λ n. true_false false (let z : false ≡ true = rw (n, e) at h in z) refl) in
    rw (e, here) (omega arith, omega arith))

older-none : (left : List ℕ) (f c : ℕ) → has c left ≡ false → has c (older_of left f) ≡ false
older-none [] f c h = refl
older-none (x ∷ xs) f c h =
    let off = not_has c x xs h in
    by_test (has f xs) (λ t. rw t (older-none xs f c off.1)) (λ e. rw e off.1)

-- of functions that were left, the older ones have the lesser age
has-older : (left : List ℕ) (f c : ℕ) → has f left ≡ true → has c left ≡ true → has c (older_of left f) ≡ nat_lt (age left c) (age left f)
has-older [] f c hf hc = true_false false hf refl
has-older (x ∷ xs) f c hf hc =
    by_test (has f xs)
    (λ t. by_test (has c xs)
    (λ u. rw (t, u) (has-older xs f c t u))
    (λ n. let here : (x == c) ≡ true = by_test (x == c) (λ y. y) (λ y. true_false false (let z : false ≡ true = rw (y, n) at hc in z) refl) in
    let bound = age-bounds xs f t in
    let none = older-none xs f c n in
    let no : nat_lt (suc (length xs)) (age xs f) ≡ false = grind (arith, nat_tests, bound.1) in
    rw (t, n, here) (none ∙ sym no)))
    (λ e. let first : (x == f) ≡ true = by_test (x == f) (λ y. y) (λ y. true_false false (let z : false ≡ true = rw (y, e) at hf in z) refl) in
    by_test (has c xs)
    (λ u. let bound = age-bounds xs c u in
    let yes : nat_lt (age xs c) (suc (length xs)) ≡ true = grind (arith, nat_tests, bound.1) in
    rw (e, u, first) (sym yes))
    (λ n. let here : (x == c) ≡ true = by_test (x == c) (λ y. y) (λ y. true_false false (let z : false ≡ true = rw (y, n) at hc in z) refl) in
    let no : nat_lt (suc (length xs)) (suc (length xs)) ≡ false = grind (arith, nat_tests) in
    rw (e, n, first, here) (sym no)))

place-append : (n f x : ℕ) (ys : List ℕ) → place_from n f (ys ++ x ∷ []) ≡ (if has f ys then place_from n f ys else (if x == f then suc (n + length ys) else 0))
place-append n f x [] = by_test (x == f) (λ t. rw t (omega arith)) (λ e. rw e refl)
place-append n f x (y ∷ ys) =
    by_test (y == f) (λ t. rw t refl)
    (λ e. let one : n + 1 + length ys ≡ n + suc (length ys) = omega arith in
    let rest = place-append (n + 1) f x ys in rw e (rw (← one) rest))

has-append : (f x : ℕ) (ys : List ℕ) → has f (ys ++ x ∷ []) ≡ has f (x ∷ ys)
has-append f x [] = refl
has-append f x (y ∷ ys) =
    let rest = has-append f x ys in
    by_test (y == f) (λ t. by_test (x == f) (λ u. rw (t, u) refl) (λ u. rw (t, u) refl)) (λ e. rw e rest)

pub has-reverse : (f : ℕ) (xs : List ℕ) → has f (reverse xs) ≡ has f xs
has-reverse f [] = refl
has-reverse f (x ∷ xs) =
    let rest = has-reverse f xs in
    ap (has f) (reverse-append (x ∷ []) xs)
    ∙ has-append f x (reverse xs) ∙ ap (λ (b : Bool). (x == f) || b) rest

pub rank-age : (left : List ℕ) (f : ℕ) → rank (reverse left) f ≡ age left f
rank-age [] f = refl
rank-age (x ∷ xs) f =
    ap (place_from 0 f) (reverse-append (x ∷ []) xs)
    ∙ place-append 0 f x (reverse xs)
    ∙ (let none : 0 + length xs ≡ length xs = omega arith in rw (has-reverse f xs, rank-age xs f, length-reverse xs, none) refl)

-- ---- settled sites

settled-at : (graph : CallGraphState) (without back left : List ℕ) (f : ℕ) → AreSettled graph without back left → has f left ≡ true → IsSettled graph without back (older_of left f) f
settled-at graph without back [] f all h = true_false false h refl
settled-at graph without back (x ∷ xs) f all h =
    by_test (has f xs)
    (λ t. rw t (settled-at graph without back xs f all.1 t))
    (λ e. let here : x ≡ f = by_test (x == f) (λ y. grind (arith, nat_tests)) (λ y. true_false false (let z : false ≡ true = rw (y, e) at h in z) refl) in
    rw e (subst (λ n. IsSettled graph without back xs n) here all.0))

late-later : (left : List ℕ) (f : ℕ) (cs : List ℕ) → has f left ≡ true → AllByRecursion (λ c. has c left ≡ true) cs → is_late (older_of left f) cs ≡ nat_le (age left f) (greatest (age left) cs)
late-later left f [] h all = let some = age-bounds left f h in let no : nat_le (age left f) 0 ≡ false = grind (arith, nat_tests, some.0) in sym no
late-later left f (c ∷ cs) h all =
    let rest = late-later left f cs h all.1 in
    let one = has-older left f c h all.0 in
    rw (one, rest) (either (age left c) (age left f) (greatest (age left) cs))
  where
    either : (a b m : ℕ) → (not (nat_lt a b) || nat_le b m) ≡ nat_le b (max a m)
    either a b m = by_test (nat_lt a b) (λ t. by_test (nat_le b m) (λ u. grind (arith, nat_tests)) (λ u. grind (arith, nat_tests))) (λ t. grind (arith, nat_tests))

pub filter-same : (p q : GraphSite → Bool) (ss : List GraphSite) → ((s : GraphSite) → IsAmong ss s → p s ≡ q s) → filter p ss ≡ filter q ss
filter-same p q [] same = refl
filter-same p q (s ∷ ss) same =
    let rest : filter p ss ≡ filter q ss = filter-same p q ss (λ t among. same t (inr among)) in
    let one : p s ≡ q s = same s (inl refl) in
    by_test (q s) (λ t. let t' : p s ≡ true = one ∙ t in rw (t, t', rest) refl) (λ e. let e' : p s ≡ false = one ∙ e in rw (e, e', rest) refl)

pub greatest-below : (functions : ℕ) (p q : ℕ → ℕ) (cs : List ℕ) → AllByRecursion (λ c. c < functions) cs → ((c : ℕ) → c < functions → p c ≡ q c) → greatest p cs ≡ greatest q cs
greatest-below functions p q [] below same = refl
greatest-below functions p q (c ∷ cs) below same = rw (same c below.0, greatest-below functions p q cs below.1 same) refl

greatest-same : (p q : ℕ → ℕ) (cs : List ℕ) → ((c : ℕ) → p c ≡ q c) → greatest p cs ≡ greatest q cs
greatest-same p q [] same = refl
greatest-same p q (c ∷ cs) same = rw (same c, greatest-same p q cs same) refl

module _ (graph : CallGraphState) (without : List ℕ) (kept : IsCallGraph graph) where
  abbrev whole : Walked
  whole = whole_walk graph without

  all_left : (cs : List ℕ) → AllByRecursion (λ c. c < function_count graph) cs → AllByRecursion (λ c. has c whole.left ≡ true) cs
  all_left [] below = tt
  all_left (c ∷ cs) below = ((whole_walk-is graph without kept).all c below.0, all_left cs below.1)

  -- the walk's back edges are the sites of which a callee is left no earlier than the caller
  pub back-later : (s : GraphSite) → IsAmong graph.sites s → has s.number without ≡ false →
      has s.number whole.back ≡ is_later (reverse whole.left) s.caller (callees graph.tables s.target)
  back-later s among open_ =
      let is = whole_walk-is graph without kept in
      let site = among-all (IsSiteOf (function_count graph) graph.tables) graph.sites s kept.sites among in
      let left = is.all s.caller site.caller in
      settled-at graph without whole.back whole.left s.caller is.settled left s (record { among = among; caller = refl; kept = open_ })
      ∙ late-later whole.left s.caller (callees graph.tables s.target) left (all_left (callees graph.tables s.target) site.target.all)
      ∙ ap (λ (n : ℕ). nat_le n (greatest (age whole.left) (callees graph.tables s.target))) (sym (rank-age whole.left s.caller))
      ∙ ap (nat_le (rank (reverse whole.left) s.caller)) (greatest-same (age whole.left) (rank (reverse whole.left)) (callees graph.tables s.target) (λ c. sym (rank-age whole.left c)))

  -- a call that is no back edge leads to an older function
  pub call-older : (f : ℕ) (call : Call) → IsCallBy graph without f call → has call.site.number whole.back ≡ false → has call.callee (older_of whole.left f) ≡ true
  call-older f call by forward =
      let is = whole_walk-is graph without kept in
      let site = among-all (IsSiteOf (function_count graph) graph.tables) graph.sites call.site kept.sites by.site in
      let left : has f whole.left ≡ true = is.all f (rw by.caller at site.caller) in
      let late : is_late (older_of whole.left f) (callees graph.tables call.site.target) ≡ false =
      sym (settled-at graph without whole.back whole.left f is.settled left call.site (record { among = by.site; caller = by.caller; kept = by.kept })) ∙ forward in
      not_late (older_of whole.left f) (callees graph.tables call.site.target) call.callee late by.callee
    where
      not_late : (older cs : List ℕ) (c : ℕ) → is_late older cs ≡ false → has c cs ≡ true → has c older ≡ true
      not_late older [] c late h = true_false false h refl
      not_late older (d ∷ cs) c late h =
          by_test (has d older)
          (λ t. by_test (d == c)
          (λ y. let same : d ≡ c = grind (arith, nat_tests) in rw (← same) t)
          (λ n. not_late older cs c (let z : is_late older cs ≡ false = rw t at late in z) (let z : has c cs ≡ true = rw n at h in z)))
          (λ e. true_false true refl (let z : true ≡ false = rw e at late in z))

  pub call-falls : (f : ℕ) (call : Call) → IsCallBy graph without f call → has call.site.number whole.back ≡ false → age whole.left call.callee < age whole.left f
  call-falls f call by forward =
      let is = whole_walk-is graph without kept in
      let site = among-all (IsSiteOf (function_count graph) graph.tables) graph.sites call.site kept.sites by.site in
      let left : has f whole.left ≡ true = is.all f (rw by.caller at site.caller) in
      let callee_left : has call.callee whole.left ≡ true = is.all call.callee (all-has (λ c. c < function_count graph) (callees graph.tables call.site.target) call.callee site.target.all by.callee) in
      let test : nat_lt (age whole.left call.callee) (age whole.left f) ≡ true = sym (has-older whole.left f call.callee left callee_left) ∙ call-older f call by forward in
      grind (arith, nat_tests)

-- ---- no cycle without the back edges

module _ (graph : CallGraphState) (kept : IsCallGraph graph) where
  has-numbers : (p : GraphSite → Bool) (ss : List GraphSite) (s : GraphSite) → IsAmong ss s → has s.number (map (λ x. x.number) ss) ≡ true
  has-numbers p [] s among = absurd among
  has-numbers p (t ∷ ss) s among = elim among [
    | inl e ↦ rw e (has-head s.number (map (λ x. x.number) ss))
    | inr rest ↦ let h = has-numbers p ss s rest in grind (arith, nat_tests)
  ]

  not_back : (s : GraphSite) → IsAmong graph.sites s → has s.number (back_edges graph) ≡ false → has s.number (whole_walk graph []).back ≡ false
  not_back s among h =
      by_test (has s.number (whole_walk graph []).back)
      (λ t. true_false (has s.number (back_edges graph))
      (has-numbers (λ x. true) (filter (λ x. has x.number (whole_walk graph []).back) graph.sites) s (among-filter (λ x. has x.number (whole_walk graph []).back) graph.sites s among t)) h)
      (λ e. e)

  falls : (f : ℕ) (call : Call) → IsCallBy graph (back_edges graph) f call → age (whole_walk graph []).left call.callee < age (whole_walk graph []).left f
  falls f call by =
      call-falls graph [] kept f call (record { site = by.site; caller = by.caller; kept = refl; callee = by.callee }) (not_back call.site by.site by.kept)

  falls-along : (f to : ℕ) (calls : List Call) → IsPath graph (back_edges graph) f calls to → age (whole_walk graph []).left to ≤ age (whole_walk graph []).left f
  falls-along f to [] path = rw path (omega arith)
  falls-along f to (call ∷ calls) path = omega (arith, falls f call path.0, falls-along call.callee to calls path.1)

  pub back_edges-break : BreaksEveryCycle graph (back_edges graph)
  back_edges-break f call calls path = absurd (omega (arith, falls f call path.0, falls-along call.callee f calls path.1))

  -- the numbers rise
  numbers-rise : (ss : List GraphSite) → IsRising ss → IsStrictlyIncreasing (map (λ (x : GraphSite). x.number) ss)
  numbers-rise (s ∷ t ∷ ss) up zero h = up.0.0
  numbers-rise (s ∷ t ∷ ss) up (suc k) h =
      let one : suc k + 1 ≡ suc (k + 1) = omega arith in
      rw one (numbers-rise (t ∷ ss) up.1 k (let z : suc (k + 1) < suc (length (map (λ (x : GraphSite). x.number) (t ∷ ss))) = rw one at h in omega (arith, z)))
  numbers-rise _ up k h = absurd (omega arith)

  pub back_edges-rise : IsStrictlyIncreasing (back_edges graph)
  back_edges-rise = numbers-rise (filter (λ x. has x.number (whole_walk graph []).back) graph.sites) (rising-filter (λ x. has x.number (whole_walk graph []).back) graph.sites kept.rising)

  -- the back edges by the ranks of an order of leaving
  pub later-back : (order ranks : List ℕ) → reverse order ≡ (whole_walk graph []).left → ((f : ℕ) → f < function_count graph → get_or ranks f 0 ≡ rank order f) →
      map (λ (x : GraphSite). x.number) (filter (λ (s : GraphSite). nat_le (get_or ranks s.caller 0) (greatest (slice_index ranks) (callees graph.tables s.target))) graph.sites) ≡ back_edges graph
  later-back order ranks e is =
      ap (map (λ (x : GraphSite). x.number))
      (filter-same (λ s. nat_le (get_or ranks s.caller 0) (greatest (slice_index ranks) (callees graph.tables s.target))) (λ s. has s.number (whole_walk graph []).back) graph.sites
      (λ s among. let site = among-all (IsSiteOf (function_count graph) graph.tables) graph.sites s kept.sites among in
      let order_is : order ≡ reverse (whole_walk graph []).left = sym (reverse-reverse order) ∙ ap reverse e in
      let cs = callees graph.tables s.target in
      let caller : get_or ranks s.caller 0 ≡ rank order s.caller = is s.caller site.caller in
      let most : greatest (slice_index ranks) cs ≡ greatest (rank order) cs = greatest-below (function_count graph) (slice_index ranks) (rank order) cs site.target.all is in
      ap (λ (n : ℕ). nat_le n (greatest (slice_index ranks) cs)) caller
      ∙ ap (nat_le (rank order s.caller)) most
      ∙ ap (λ (o : List ℕ). is_later o s.caller cs) order_is
      ∙ sym (back-later graph [] kept s among refl)))
