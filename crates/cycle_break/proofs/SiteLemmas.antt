-- The sites of a function, among all sites.
use Rattle.cycle_break.proofs.Common.{◌≡◌, inl, inr, ℕ, ◌<◌, ◌==◌, Bool, true, false, List, [], ◌∷◌, filter, refl, sym, ◌∙◌, subst, arith, nat_tests, AllByRecursion, GraphSite, IsRising, IsAmong, is_call_of, sites_of, has, by_test, All-weaker}
use Rattle.cycle_break.proofs.NumberLemmas.{all-filter, true_false}

pub all-among : (xs : List GraphSite) → AllByRecursion (IsAmong xs) xs
all-among [] = tt
all-among (x ∷ xs) = (inl refl, All-weaker (IsAmong xs) (IsAmong (x ∷ xs)) (λ y h. inr h) xs (all-among xs))

pub among-all : (P : GraphSite → Type 0) (xs : List GraphSite) (s : GraphSite) → AllByRecursion P xs → IsAmong xs s → P s
among-all P [] s all h = absurd h
among-all P (x ∷ xs) s all h = elim h [ inl e ↦ subst P e all.0 | inr rest ↦ among-all P xs s all.1 rest ]

pub among-filter : (p : GraphSite → Bool) (xs : List GraphSite) (s : GraphSite) → IsAmong xs s → p s ≡ true → IsAmong (filter p xs) s
among-filter p [] s h test = absurd h
among-filter p (x ∷ xs) s h test = elim h [
  | inl e ↦ let here : p x ≡ true = rw e test in rw here (inl e)
  | inr rest ↦ by_test (p x) (λ t. rw t (inr (among-filter p xs s rest test))) (λ f. rw f (among-filter p xs s rest test))
]

pub rising-filter : (p : GraphSite → Bool) (xs : List GraphSite) → IsRising xs → IsRising (filter p xs)
rising-filter p [] up = tt
rising-filter p (x ∷ xs) up =
    by_test (p x)
    (λ t. rw t (All-weaker (λ (y : GraphSite). (x.number < y.number) × (p y ≡ true)) (λ (y : GraphSite). x.number < y.number) (λ y h. h.0) (filter p xs) (all-filter (λ (y : GraphSite). x.number < y.number) p xs up.0), rising-filter p xs up.1))
    (λ f. rw f (rising-filter p xs up.1))

-- no two sites have one number
pub same-number : (xs : List GraphSite) (s t : GraphSite) → IsRising xs → IsAmong xs s → IsAmong xs t → s.number ≡ t.number → s ≡ t
same-number [] s t up hs ht e = absurd hs
same-number (x ∷ xs) s t up hs ht e = elim hs [
  | inl a ↦ elim ht [
    | inl b ↦ sym a ∙ b
    | inr b ↦ let lt : x.number < t.number = among-all (λ (y : GraphSite). x.number < y.number) xs t up.0 b in
        absurd (let lt' : s.number < t.number = rw (← a) lt in omega (arith, lt', e))
  ]
  | inr a ↦ elim ht [
    | inl b ↦ let lt : x.number < s.number = among-all (λ (y : GraphSite). x.number < y.number) xs s up.0 a in
        absurd (let lt' : t.number < s.number = rw (← b) lt in omega (arith, lt', e))
    | inr b ↦ same-number xs s t up.1 a b e
  ]
]

-- a function's sites are among all, and its own
pub record IsOwn (sites : List GraphSite) (without : List ℕ) (function : ℕ) (site : GraphSite) : Type 0 where
  pub among : IsAmong sites site
  pub caller : site.caller ≡ function
  pub kept : has site.number without ≡ false

own-from_test : (sites : List GraphSite) (without : List ℕ) (function : ℕ) (site : GraphSite) → IsAmong sites site → is_call_of without function site ≡ true → IsOwn sites without function site
own-from_test sites without function site among test =
    by_test (site.caller == function)
    (λ e. record {
      among = among;
      caller = grind (arith, nat_tests);
      kept = by_test (has site.number without) (λ h. true_false false (let z : false ≡ true = rw (e, h) at test in z) refl) (λ h. h);
    })
    (λ e. true_false false (let z : false ≡ true = rw e at test in z) refl)

pub all-own : (sites : List GraphSite) (without : List ℕ) (function : ℕ) → AllByRecursion (IsOwn sites without function) (sites_of sites without function)
all-own sites without function =
    All-weaker (λ s. IsAmong sites s × (is_call_of without function s ≡ true)) (IsOwn sites without function) (λ s h. own-from_test sites without function s h.0 h.1)
    (sites_of sites without function) (all-filter (IsAmong sites) (is_call_of without function) sites (all-among sites))

pub own-among : (sites : List GraphSite) (without : List ℕ) (site : GraphSite) → IsAmong sites site → has site.number without ≡ false → IsAmong (sites_of sites without site.caller) site
own-among sites without site among kept =
    among-filter (is_call_of without site.caller) sites site among (rw kept (grind (arith, nat_tests)))
