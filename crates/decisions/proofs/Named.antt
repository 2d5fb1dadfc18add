-- Of a certificate it is decided whether it names just the sites of a program.
use Rattle.decisions.proofs.Common.{ℕ, suc, ◌≡◌, ◌+◌, ◌<◌, ◌≤◌, inl, inr, ap, arith, true, false, IsTrue, List, [], ◌∷◌, length, nat_eq, Some, None, decided_by, both_decided, bool_same, slice_get, slice_index, IsStrictlyIncreasing, or_cases, eqb-true, slice_get_past, get_or_past, Op, FlatFunction, FlatCode, function_at, operation_at, Certificate, SiteFact, kind_of, certified_site, starts_thread, is_spawned, is_named, has_site, fact_numbers, NamesSites, Decided, everywhere}
use Rattle.decisions.proofs.Decisions.{implied_decided, lt_decided}
use Rattle.decisions.proofs.Search.{held_decided}

-- ---- functions past the last

pub no_operation : (code : FlatCode) (f k : ℕ) (op : Op) → length (function_at code f).ops ≤ k → operation_at code f k ≡ Some op → ⊥
no_operation code f k op past e = let none : slice_get (function_at code f).ops k ≡ None = slice_get_past (function_at code f).ops k past in cc

pub no_operations : (code : FlatCode) (f : ℕ) → length code.functions ≤ f → length (function_at code f).ops ≡ 0
no_operations code f past = ap (λ (x : FlatFunction). length x.ops) (get_or_past code.functions f (record { params = 0; gives = false; sizes = []; ops = [] }) past)

-- ---- sites

-- what holds of each certified site of each operation
abbrev AtSites : FlatCode → (Op → ℕ → Type 0) → ℕ → ℕ → Type 0
AtSites code P f i = (op : Op) → operation_at code f i ≡ Some op → (site : ℕ) → certified_site op ≡ Some site → P op site

at_sites_decided : (code : FlatCode) (P : Op → ℕ → Type 0) → ((op : Op) (site : ℕ) → Decided (P op site)) → (f i : ℕ) → Decided (AtSites code P f i)
at_sites_decided code P each f i =
    held_decided (λ op. (site : ℕ) → certified_site op ≡ Some site → P op site) (λ op. held_decided (P op) (each op) (certified_site op)) (operation_at code f i)

rising_decided : (xs : List ℕ) → Decided (IsStrictlyIncreasing xs)
rising_decided xs = everywhere (λ k. k + 1 < length xs → slice_index xs k < slice_index xs (k + 1)) (λ k. implied_decided (lt_decided (k + 1) (length xs)) (λ h. lt_decided (slice_index xs k) (slice_index xs (k + 1)))) (length xs)
    (λ k past h. absurd (omega (arith, past, h)))

-- a number above each that is named
abbrev above : List SiteFact → ℕ
above [] = 0
above (fact ∷ facts) = suc fact.number + above facts

named_below : (facts : List SiteFact) (site : ℕ) → IsTrue (is_named facts site) → site < above facts
named_below [] site named = absurd cc
named_below (fact ∷ facts) site named =
    elim (or_cases (nat_eq fact.number site) (is_named facts site) named) [
      | inl here ↦ (let e : fact.number ≡ site = eqb-true fact.number site here in omega arith)
      | inr further ↦ (let h = named_below facts site further in omega arith)
    ]

module _ (code : FlatCode) (certificate : Certificate) where
  abbrev Named : Op → ℕ → Type 0
  Named op site = IsTrue (is_named certificate.sites site) × (is_spawned (kind_of certificate op) ≡ starts_thread op)

  named_decided : (op : Op) (site : ℕ) → Decided (Named op site)
  named_decided op site = both_decided (bool_same (is_named certificate.sites site) true) (bool_same (is_spawned (kind_of certificate op)) (starts_thread op))

  each_decided : Decided ((f i : ℕ) → AtSites code Named f i)
  each_decided = everywhere (λ f. (i : ℕ) → AtSites code Named f i)
      (λ f. everywhere (AtSites code Named f) (at_sites_decided code Named named_decided f) (length (function_at code f).ops) (λ i past op e site c. absurd (no_operation code f i op past e)))
      (length code.functions)
      (λ f past i op e site c. absurd (no_operation code f i op (let none = no_operations code f past in omega arith) e))

  others_decided : Decided ((site : ℕ) → IsTrue (is_named certificate.sites site) → IsTrue (has_site code site))
  others_decided = everywhere (λ site. IsTrue (is_named certificate.sites site) → IsTrue (has_site code site))
      (λ site. implied_decided (bool_same (is_named certificate.sites site) true) (λ h. bool_same (has_site code site) true))
      (above certificate.sites)
      (λ site past named. let h = named_below certificate.sites site named in absurd (omega (arith, past, h)))

  abbrev NamedParts : Type 0
  NamedParts = IsStrictlyIncreasing (fact_numbers certificate.sites) × (((f i : ℕ) → AtSites code Named f i) × ((site : ℕ) → IsTrue (is_named certificate.sites site) → IsTrue (has_site code site)))

  pub names_decided : Decided (NamesSites code certificate)
  names_decided = decided_by (λ (h : NamedParts). record { rising = h.0; each = λ f i site op e c. h.1.0 f i op e site c; no_other = h.1.1 })
      (λ n. (n.rising, ((λ f i op e site c. n.each f i site op e c), n.no_other)))
      (both_decided (rising_decided (fact_numbers certificate.sites)) (both_decided each_decided others_decided))
