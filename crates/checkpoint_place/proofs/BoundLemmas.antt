-- One function more has its bound.
use Rattle.checkpoint_place.proofs.Common.{◌≡◌, ℕ, ◌+◌, ◌<◌, nat_le, true, false, List, [], ◌∷◌, length, take, set, get_or, filter, reverse, slice_index, refl, sym, ap, ◌∙◌, subst, get_or-set_same, get_or-set_other, AllByRecursion, GraphSite, callees, greatest, CallGraphState, sites_of, has, by_test, by_eq, CallsOnly, IsBottomUp, calls-within, reverse-more, up-front, has-cases, callee_bound, is_within, bound_over, All-weaker}

-- ---- a bound hangs only on the bounds of the callees

pub greatest-agree : (p q : ℕ → ℕ) (cs : List ℕ) → AllByRecursion (λ c. p c ≡ q c) cs → greatest p cs ≡ greatest q cs
greatest-agree p q [] same = refl
greatest-agree p q (c ∷ cs) same = rw (same.0, greatest-agree p q cs same.1) refl

most-agree : (tables : List (List ℕ)) (p q : ℕ → ℕ) (max_path weight : ℕ) (ss : List GraphSite) → AllByRecursion (λ s. AllByRecursion (λ c. p c ≡ q c) (callees tables s.target)) ss →
    greatest (callee_bound tables p) (filter (is_within tables p max_path weight) ss) ≡ greatest (callee_bound tables q) (filter (is_within tables q max_path weight) ss)
most-agree tables p q max_path weight [] same = refl
most-agree tables p q max_path weight (s ∷ ss) same =
    let one : callee_bound tables p s ≡ callee_bound tables q s = greatest-agree p q (callees tables s.target) same.0 in
    let rest = most-agree tables p q max_path weight ss same.1 in
    let test : is_within tables p max_path weight s ≡ is_within tables q max_path weight s = ap (λ n. nat_le (weight + n) max_path) one in
    by_test (is_within tables q max_path weight s)
    (λ t. let t' : is_within tables p max_path weight s ≡ true = test ∙ t in rw (t, t', one, rest) refl)
    (λ e. let e' : is_within tables p max_path weight s ≡ false = test ∙ e in rw (e, e') rest)

-- ---- the table of bounds

module _ (graph : CallGraphState) (back : List ℕ) (max_path : ℕ) where
  -- the bound that a function has by the bounds of others
  abbrev pub bound_by : (ℕ → ℕ) → ℕ → ℕ
  bound_by bound f = bound_over graph.tables bound max_path (slice_index graph.weights f) (sites_of graph.sites back f)

  -- these functions have their bounds
  abbrev pub AreBound : List ℕ → List ℕ → Type 0
  AreBound done bounds = (f : ℕ) → has f done ≡ true → get_or bounds f 0 ≡ bound_by (slice_index bounds) f

  bound_by-agree : (p q : ℕ → ℕ) (f : ℕ) (others : List ℕ) → ((c : ℕ) → has c others ≡ true → p c ≡ q c) → CallsOnly graph back others f → bound_by p f ≡ bound_by q f
  bound_by-agree p q f others same calls =
      ap (λ n. slice_index graph.weights f + n)
      (most-agree graph.tables p q max_path (slice_index graph.weights f) (sites_of graph.sites back f)
      (All-weaker (λ s. AllByRecursion (λ c. has c others ≡ true) (callees graph.tables s.target)) (λ s. AllByRecursion (λ c. p c ≡ q c) (callees graph.tables s.target))
      (λ s all. All-weaker (λ c. has c others ≡ true) (λ c. p c ≡ q c) same (callees graph.tables s.target) all) (sites_of graph.sites back f) calls))

  -- what is written for the next function changes no bound that there is
  pub bounds-kept : (order bounds : List ℕ) (i value : ℕ) → get_or order i 0 < length bounds →
      AreBound (reverse (take i order)) bounds → value ≡ bound_by (slice_index bounds) (get_or order i 0) →
      (c : ℕ) → has c (reverse (take i order)) ≡ true → get_or bounds c 0 ≡ get_or (set bounds (get_or order i 0) value) c 0
  bounds-kept order bounds i value below bound is c h =
      let f = get_or order i 0 in
      by_eq c f
      (λ same. let was : has f (reverse (take i order)) ≡ true = rw (← same) h in rw same (bound f was ∙ sym is ∙ sym (get_or-set_same bounds f value 0 below)))
      (λ ne. sym (get_or-set_other bounds f c value 0 ne))

  -- the bound of the next function is written
  pub AreBound-more : (order bounds : List ℕ) (i value : ℕ) → i < length order → get_or order i 0 < length bounds → IsBottomUp graph back (reverse order) →
      AreBound (reverse (take i order)) bounds → value ≡ bound_by (slice_index bounds) (get_or order i 0) →
      AreBound (reverse (take (i + 1) order)) (set bounds (get_or order i 0) value)
  AreBound-more order bounds i value within below up bound is =
      let f = get_or order i 0 in
      let done = reverse (take i order) in
      let new = set bounds f value in
      let up_more : IsBottomUp graph back (f ∷ done) = subst (IsBottomUp graph back) (reverse-more order i within) (up-front graph back order (i + 1) up) in
      let kept : (c : ℕ) → has c done ≡ true → get_or bounds c 0 ≡ get_or new c 0 = bounds-kept order bounds i value below bound is in
      λ g h.
      has-cases g f done (subst (λ l. has g l ≡ true) (reverse-more order i within) h)
      (λ same. subst (λ n. get_or new n 0 ≡ bound_by (slice_index new) n) same
      (get_or-set_same bounds f value 0 below ∙ is ∙ bound_by-agree (slice_index bounds) (slice_index new) f done kept up_more.0))
      (λ was. sym (kept g was) ∙ bound g was ∙ bound_by-agree (slice_index bounds) (slice_index new) g done kept (calls-within graph back done g up_more.1 was))
