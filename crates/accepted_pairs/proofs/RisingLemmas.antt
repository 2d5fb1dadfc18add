-- Facts of sites whose numbers rise.
use Rattle.accepted_pairs.proofs.Common.{◌≡◌, ◌≢◌, ℕ, zero, suc, ◌+◌, ◌-◌, ◌<◌, ◌≤◌, Bool, true, false, List, [], ◌∷◌, length, arith, refl, sym, ap, ◌∙◌, subst, inl, inr, slice_index, slice_index_or, nat_eq, get_or-map, get_or_default, length-map, cases_lt, eq-eqb, ne_eqb, eqb-true, or_left, or_right, or_cases, kind_in, kind_or, fact_numbers, is_named}
use Rattle.std.specs.List.Sorted.{IsStrictlyIncreasing}
use Rattle.stack_certificate.specs.declared.sites.LinkKind.{LinkKind}
use Rattle.stack_certificate.specs.declared.sites.SiteFact.{SiteFact}

-- a higher place has a higher number
steps : (xs : List ℕ) → IsStrictlyIncreasing xs → (i d : ℕ) → i + suc d < length xs → slice_index xs i < slice_index xs (i + suc d)
steps xs rising i zero lt =
    let next : slice_index xs i < slice_index xs (i + 1) = rising i (omega arith) in
    next
steps xs rising i (suc d) lt =
    let before : slice_index xs i < slice_index xs (i + suc d) = steps xs rising i d (omega arith) in
    let at : i + suc d + 1 ≡ i + suc (suc d) = omega arith in
    let next : slice_index xs (i + suc d) < slice_index xs (i + suc d + 1) = rising (i + suc d) (omega arith) in
    let moved : slice_index xs (i + suc d) < slice_index xs (i + suc (suc d)) = subst (λ (k : ℕ). slice_index xs (i + suc d) < slice_index xs k) at next in
    omega arith

pub rising_lt : (xs : List ℕ) → IsStrictlyIncreasing xs → (i j : ℕ) → i < j → j < length xs → slice_index xs i < slice_index xs j
rising_lt xs rising i j lt bound =
    let d : ℕ = j - suc i in
    let at : i + suc d ≡ j = omega arith in
    subst (λ (k : ℕ). slice_index xs i < slice_index xs k) at (steps xs rising i d (omega arith))

-- ---- how a site links

kind_here : (b : Bool) (kind rest : LinkKind) → b ≡ true → kind_or b kind rest ≡ kind
kind_here true kind rest e = refl
kind_here false kind rest e = cc

kind_later : (b : Bool) (kind rest : LinkKind) → b ≡ false → kind_or b kind rest ≡ rest
kind_later true kind rest e = cc
kind_later false kind rest e = refl

-- where a fact of the site stands at a place, and a lower place has another, the site links as that fact says
pub kind_found : (facts : List SiteFact) (site k : ℕ) (fact : SiteFact) → k < length facts → fact ≡ slice_index_or facts k fact → fact.number ≡ site →
    ((j : ℕ) → j < k → slice_index (fact_numbers facts) j ≢ site) → kind_in facts site ≡ fact.kind
kind_found [] site k fact lt at is lower = absurd (omega arith)
kind_found (first ∷ facts) site zero fact lt at is lower =
    let same : first.number ≡ site = ap (λ f. f.number) (sym at) ∙ is in
    kind_here (nat_eq first.number site) first.kind (kind_in facts site) (eq-eqb first.number site same) ∙ ap (λ f. f.kind) (sym at)
kind_found (first ∷ facts) site (suc k) fact lt at is lower =
    kind_later (nat_eq first.number site) first.kind (kind_in facts site) (ne_eqb first.number site (lower zero (omega arith))) ∙
    kind_found facts site k fact (omega arith) at is (λ j less. lower (suc j) (omega arith))

pub kind_absent : (facts : List SiteFact) (site : ℕ) → ((j : ℕ) → j < length facts → slice_index (fact_numbers facts) j ≢ site) → kind_in facts site ≡ LinkKind.Plain
kind_absent [] site none = refl
kind_absent (first ∷ facts) site none =
    kind_later (nat_eq first.number site) first.kind (kind_in facts site) (ne_eqb first.number site (none zero (omega arith))) ∙
    kind_absent facts site (λ j less. none (suc j) (omega arith))

-- where the numbers rise, no lower place has the number of a place
pub lower_differ : (facts : List SiteFact) (k site : ℕ) → IsStrictlyIncreasing (fact_numbers facts) → k < length facts → slice_index (fact_numbers facts) k ≡ site →
    (j : ℕ) → j < k → slice_index (fact_numbers facts) j ≢ site
lower_differ facts k site rising lt is j less e =
    let wide : k < length (fact_numbers facts) = rw (length-map facts (λ f. f.number)) lt in
    let below : slice_index (fact_numbers facts) j < slice_index (fact_numbers facts) k = rising_lt (fact_numbers facts) rising j k less wide in
    omega arith

pub named_at : (facts : List SiteFact) (k site : ℕ) → k < length facts → slice_index (fact_numbers facts) k ≡ site → is_named facts site ≡ true
named_at [] k site lt is = absurd (omega arith)
named_at (first ∷ facts) zero site lt is = or_left (nat_eq first.number site) (is_named facts site) (eq-eqb first.number site is)
named_at (first ∷ facts) (suc k) site lt is = or_right (nat_eq first.number site) (is_named facts site) (named_at facts k site (omega arith) is)

pub named_where : (facts : List SiteFact) (site : ℕ) → is_named facts site ≡ true → (k : ℕ) × (k < length facts) × (slice_index (fact_numbers facts) k ≡ site)
named_where [] site named = cc
named_where (first ∷ facts) site named = elim (or_cases (nat_eq first.number site) (is_named facts site) named) [
  | inl here ↦ (zero, omega arith, eqb-true first.number site here)
  | inr later ↦ (let w = named_where facts site later in (suc w.0, omega arith, w.2))
]

-- ---- as code reads them, with some fact past the end

pub number_get : (facts : List SiteFact) (k : ℕ) (d : SiteFact) → k < length facts → slice_index (fact_numbers facts) k ≡ (slice_index_or facts k d).number
number_get facts k d lt = get_or-map (λ f. f.number) facts k d 0 lt

wide : (facts : List SiteFact) (k : ℕ) → k < length facts → k < length (fact_numbers facts)
wide facts k lt = rw (length-map facts (λ f. f.number)) lt

pub half_below : (facts : List SiteFact) (m k site : ℕ) (d : SiteFact) → IsStrictlyIncreasing (fact_numbers facts) → m < length facts →
    (slice_index_or facts m d).number < site → k ≤ m → slice_index (fact_numbers facts) k < site
half_below facts m k site d rising lt h le =
    let e = number_get facts m d lt in
    let there : slice_index (fact_numbers facts) m < site = omega arith in
    elim (cases_lt k m) [
      | inl below ↦ (let less = rising_lt (fact_numbers facts) rising k m below (wide facts m lt) in omega arith)
      | inr above ↦ (let is : m ≡ k = omega arith in subst (λ (j : ℕ). slice_index (fact_numbers facts) j < site) is there)
    ]

pub half_above : (facts : List SiteFact) (m k site : ℕ) (d : SiteFact) → IsStrictlyIncreasing (fact_numbers facts) → m < length facts →
    site ≤ (slice_index_or facts m d).number → m ≤ k → k < length facts → site ≤ slice_index (fact_numbers facts) k
half_above facts m k site d rising lt h le inside =
    let e = number_get facts m d lt in
    let there : site ≤ slice_index (fact_numbers facts) m = omega arith in
    elim (cases_lt m k) [
      | inl above ↦ (let less = rising_lt (fact_numbers facts) rising m k above (wide facts k inside) in omega arith)
      | inr below ↦ (let is : m ≡ k = omega arith in subst (λ (j : ℕ). site ≤ slice_index (fact_numbers facts) j) is there)
    ]

-- no place has the site, where the lower ones have lower numbers and the first of the others has another
pub nowhere : (facts : List SiteFact) (low site : ℕ) → IsStrictlyIncreasing (fact_numbers facts) → ((k : ℕ) → k < low → slice_index (fact_numbers facts) k < site) →
    ((k : ℕ) → low ≤ k → k < length facts → site ≤ slice_index (fact_numbers facts) k) → (low < length facts → slice_index (fact_numbers facts) low ≡ site → ⊥) →
    (k : ℕ) → k < length facts → slice_index (fact_numbers facts) k ≡ site → ⊥
nowhere facts low site rising below above other k lt is = elim (cases_lt k low) [
  | inl under ↦ (let less = below k under in omega arith)
  | inr over ↦ elim (cases_lt low k) [
    | inl later ↦
        (let less = rising_lt (fact_numbers facts) rising low k later (wide facts k lt) in
        let least = above low (omega arith) (omega arith) in
        omega arith)
    | inr same ↦
        (let e : k ≡ low = omega arith in
        other (omega arith) (subst (λ (j : ℕ). slice_index (fact_numbers facts) j ≡ site) e is))
  ]
]

pub kind_at : (facts : List SiteFact) (site k : ℕ) (d : SiteFact) → IsStrictlyIncreasing (fact_numbers facts) → k < length facts → slice_index (fact_numbers facts) k ≡ site →
    (slice_index_or facts k d).kind ≡ kind_in facts site
kind_at facts site k d rising lt is =
    sym
    (kind_found facts site k (slice_index_or facts k d) lt (get_or_default facts k d (slice_index_or facts k d) lt) (sym (number_get facts k d lt) ∙ is)
    (lower_differ facts k site rising lt is))

-- ---- whether the numbers rise

pub not_rising : (facts : List SiteFact) (k : ℕ) (d : SiteFact) → 1 ≤ k → k < length facts → (slice_index_or facts k d).number ≤ (slice_index_or facts (k - 1) d).number →
    IsStrictlyIncreasing (fact_numbers facts) → ⊥
not_rising facts k d one lt h rising =
    let e = number_get facts k d lt in
    let f = number_get facts (k - 1) d (omega arith) in
    let less = rising_lt (fact_numbers facts) rising (k - 1) k (omega arith) (wide facts k lt) in
    omega arith

pub rising_more : (facts : List SiteFact) (k : ℕ) (d : SiteFact) → 1 ≤ k → k < length facts → (slice_index_or facts (k - 1) d).number < (slice_index_or facts k d).number →
    ((j : ℕ) → j + 1 < k → slice_index (fact_numbers facts) j < slice_index (fact_numbers facts) (j + 1)) →
    (j : ℕ) → j + 1 < k + 1 → slice_index (fact_numbers facts) j < slice_index (fact_numbers facts) (j + 1)
rising_more facts k d one lt h before j less = elim (cases_lt (j + 1) k) [
  | inl below ↦ before j below
  | inr above ↦
      (let e = number_get facts k d lt in
      let f = number_get facts (k - 1) d (omega arith) in
      let at : k ≡ j + 1 = omega arith in
      let under : k - 1 ≡ j = omega arith in
      let pair : slice_index (fact_numbers facts) (k - 1) < slice_index (fact_numbers facts) k = omega arith in
      let moved : slice_index (fact_numbers facts) j < slice_index (fact_numbers facts) k = subst (λ (n : ℕ). slice_index (fact_numbers facts) n < slice_index (fact_numbers facts) k) under pair in
      subst (λ (n : ℕ). slice_index (fact_numbers facts) j < slice_index (fact_numbers facts) n) at moved)
]
