-- The heights that are made cover each call, and are at most those of any other heights that do.
use Rattle.chunk_budget.proofs.Common.{◌≡◌, ◌≢◌, inl, inr, ◌⊎◌, ℕ, zero, suc, ◌+◌, ◌<◌, ◌≤◌, max, true, List, [], ◌∷◌, length, set, refl, sym, ap, ◌∙◌, subst, arith, Some, slice_get, slice_index, AllByRecursion, cases_lt, get_or-set_same, get_or-set_other, none-some, same_Some, Op, FlatCode, function_at, operation_at, members_of, IsWellFormed, Certificate, kind_of, greatest, functions_called, Calls, height_of, chunks_added, IsCovered, AreCovered, highest, height_asked, greatest_below}
use Rattle.call_graph.specs.Lists.{has}
use Rattle.call_graph.proofs.IndexLemmas.{by_eq}
use Rattle.cycle_break.proofs.NumberLemmas.{has-head, has-tail, all-has}
use Rattle.call_cycles.specs.Orders.{StandsBefore, IsFromBottom}
use Rattle.chunk_budget.proofs.CoverLemmas.{all_within, highest_within, HasMember, has_member}
use Rattle.chunk_budget.proofs.LeastLemmas.{inside}

-- ---- the greatest value of some things

pub greatest-at : {X : Type 0} (value : X → ℕ) (xs : List X) (k : ℕ) (x : X) → slice_get xs k ≡ Some x → value x ≤ greatest value xs
greatest-at value [] k x there = absurd (none-some x there)
greatest-at value (y ∷ xs) zero x there = let same : value y ≡ value x = ap value (same_Some y x there) in omega (arith, same)
greatest-at value (y ∷ xs) (suc k) x there = omega (arith, greatest-at value xs k x there)

pub greatest-within : {X : Type 0} (value : X → ℕ) (xs : List X) (most : ℕ) → ((k : ℕ) (x : X) → slice_get xs k ≡ Some x → value x ≤ most) → greatest value xs ≤ most
greatest-within value [] most all = omega arith
greatest-within value (x ∷ xs) most all = omega (arith, all 0 x refl, greatest-within value xs most (λ k y there. all (suc k) y there))

pub below-at : (value : ℕ → ℕ) (n f : ℕ) → f < n → value f ≤ greatest_below value n
below-at value zero f lt = absurd (omega arith)
below-at value (suc n) f lt =
    by_eq f n
    (λ e. let same : value f ≡ value n = ap value e in omega (arith, same))
    (λ ne. omega (arith, below-at value n f (omega (arith, lt, ne))))

pub below-within : (value : ℕ → ℕ) (n most : ℕ) → ((f : ℕ) → f < n → value f ≤ most) → greatest_below value n ≤ most
below-within value zero most all = omega arith
below-within value (suc n) most all = omega (arith, all n (omega arith), below-within value n most (λ f lt. all f (omega (arith, lt))))

-- ---- lower heights ask for less

highest-least : (heights others gs : List ℕ) → ((f : ℕ) → height_of heights f ≤ height_of others f) → highest heights gs ≤ highest others gs
highest-least heights others [] le = omega arith
highest-least heights others (g ∷ gs) le = omega (arith, le g, highest-least heights others gs le)

-- what an operation asks is at most the height of its function by heights that cover it and are no lower
pub asked-within : (code : FlatCode) (certificate : Certificate) (heights others : List ℕ) (f : ℕ) (op : Op) → HasMember code op → ((g : ℕ) → height_of heights g ≤ height_of others g) →
    IsCovered code certificate others f op → height_asked code certificate heights op ≤ height_of others f
asked-within code certificate heights others f (Op.Call site d g args) member le covered = let here = covered.0 in omega (arith, here, le g)
asked-within code certificate heights others f (Op.CallTable site d t i s) member le covered =
    let within = highest_within others (members_of code t) (chunks_added (kind_of certificate (Op.CallTable site d t i s))) (height_of others f) (member site d t i s refl) covered in
    omega (arith, within, highest-least heights others (members_of code t) le)
asked-within code certificate heights others f _ member le covered = omega arith

-- each function that an operation calls is within what it asks
asked-all : (code : FlatCode) (certificate : Certificate) (heights : List ℕ) (most : ℕ) (op : Op) → height_asked code certificate heights op ≤ most → AllByRecursion (λ g. height_of heights g + chunks_added (kind_of certificate op) ≤ most) (functions_called code op)
asked-all code certificate heights most (Op.Call site d g args) le = (le, tt)
asked-all code certificate heights most (Op.CallTable site d t i s) le =
    all_within heights (members_of code t) (chunks_added (kind_of certificate (Op.CallTable site d t i s))) most le
asked-all code certificate heights most _ le = tt

-- a function that is as high as an operation asks covers it
asked-covers : (code : FlatCode) (certificate : Certificate) (heights : List ℕ) (f : ℕ) (op : Op) → height_asked code certificate heights op ≤ height_of heights f → IsCovered code certificate heights f op
asked-covers code certificate heights f op le = asked-all code certificate heights (height_of heights f) op le

-- what holds of each number in a list
all-of : (P : ℕ → Type 0) (xs : List ℕ) → ((n : ℕ) → has n xs ≡ true → P n) → AllByRecursion P xs
all-of P [] each = tt
all-of P (x ∷ xs) each = (each x (has-head x xs), all-of P xs (λ n h. each n (has-tail n x xs h)))

-- ---- one function more

-- each operation of a function is covered
abbrev pub IsCoveredWhole : FlatCode → Certificate → List ℕ → ℕ → Type 0
IsCoveredWhole code certificate heights f = (k : ℕ) (op : Op) → operation_at code f k ≡ Some op → IsCovered code certificate heights f op

-- the functions before a place in an order are covered
abbrev pub AreCoveredBefore : FlatCode → Certificate → List ℕ → List ℕ → ℕ → Type 0
AreCoveredBefore code certificate order heights end = (j : ℕ) → j < end → IsCoveredWhole code certificate heights (slice_index order j)

-- no other heights that cover each call are lower
abbrev pub AreLeast : FlatCode → Certificate → List ℕ → Type 0
AreLeast code certificate heights = (others : List ℕ) → AreCovered code certificate others → (f : ℕ) → height_of heights f ≤ height_of others f

module _ (code : FlatCode) (certificate : Certificate) (formed : IsWellFormed code) where
  -- what a function's operations ask
  abbrev pub asked_of : List ℕ → ℕ → ℕ
  asked_of heights f = greatest (height_asked code certificate heights) (function_at code f).ops

  covered-whole : (heights : List ℕ) (f : ℕ) → asked_of heights f ≤ height_of heights f → IsCoveredWhole code certificate heights f
  covered-whole heights f le k op there =
      let one = greatest-at (height_asked code certificate heights) (function_at code f).ops k op there in
      asked-covers code certificate heights f op (omega (arith, one, le))

  -- heights that are no lower and cover a function are as high there as its operations ask
  asked-least : (heights others : List ℕ) (f : ℕ) → ((g : ℕ) → height_of heights g ≤ height_of others g) → IsCoveredWhole code certificate others f → asked_of heights f ≤ height_of others f
  asked-least heights others f le covered =
      greatest-within (height_asked code certificate heights) (function_at code f).ops (height_of others f)
      (λ k op there. asked-within code certificate heights others f op (has_member code f k op formed there) le (covered k op there))

  -- the heights of a function and of what it calls are as before
  kept-whole : (heights new : List ℕ) (f : ℕ) → height_of new f ≡ height_of heights f → ((g : ℕ) → Calls code f g → height_of new g ≡ height_of heights g) →
      IsCoveredWhole code certificate heights f → IsCoveredWhole code certificate new f
  kept-whole heights new f same called covered k op there =
      all-of (λ g. height_of new g + chunks_added (kind_of certificate op) ≤ height_of new f) (functions_called code op)
      (λ g h.
      let was = all-has (λ n. height_of heights n + chunks_added (kind_of certificate op) ≤ height_of heights f) (functions_called code op) g (covered k op there) h in
      let e = called g (record { k = k; op = op; there = there; called = h }) in
      omega (arith, was, same, e))

  -- a function is raised to what its operations ask
  pub least-more : (heights : List ℕ) (f value : ℕ) → f < length heights → value ≡ max (height_of heights f) (asked_of heights f) → AreLeast code certificate heights → AreLeast code certificate (set heights f value)
  least-more heights f value within is least others covered g =
      by_eq g f
      (λ e.
      let at : height_of (set heights f value) f ≡ value = get_or-set_same heights f value 0 within in
      let asked = asked-least heights others f (least others covered) (covered f) in
      let was = least others covered f in
      let here : height_of (set heights f value) f ≤ height_of others f = omega (arith, at, is, asked, was) in
      subst (λ (n : ℕ). height_of (set heights f value) n ≤ height_of others n) (sym e) here)
      (λ ne. let at : height_of (set heights f value) g ≡ height_of heights g = get_or-set_other heights f g value 0 ne in
      let was = least others covered g in omega (arith, at, was))

  module _ (order heights : List ℕ) (i f value : ℕ) (in_order : i < length order) (at : f ≡ slice_index order i) (within : f < length heights) (is : value ≡ max (height_of heights f) (asked_of heights f)) (bottom : IsFromBottom code order) (covered : AreCoveredBefore code certificate order heights i) where
    abbrev new : List ℕ
    new = set heights f value

    here : height_of new f ≡ value
    here = get_or-set_same heights f value 0 within

    other : (g : ℕ) → g ≢ f → height_of new g ≡ height_of heights g
    other g ne = get_or-set_other heights f g value 0 ne

    -- the function is as high already
    none-raised : asked_of heights f ≤ height_of heights f → (g : ℕ) → height_of new g ≡ height_of heights g
    none-raised le g = by_eq g f
        (λ e. subst (λ (n : ℕ). height_of new n ≡ height_of heights n) (sym e) (omega (arith, here, is, le)))
        (λ ne. other g ne)

    -- else it doesn't stand before
    not-before : height_of heights f < asked_of heights f → (j : ℕ) → j < i → slice_index order j ≢ f
    not-before lt j before e =
        let le = asked-least heights heights f (λ g. omega arith) (subst (IsCoveredWhole code certificate heights) e (covered j before)) in
        omega (arith, le, lt)

    apart : height_of heights f < asked_of heights f → (j g : ℕ) → j ≤ i → Calls code (slice_index order j) g → g ≢ f
    apart lt j g le call e =
        let stands = bottom j g (omega (arith, le, in_order)) call in
        not-before lt stands.place (let b = stands.before in omega (arith, b, le)) (stands.is ∙ e)

    more : (j : ℕ) → j < i + 1 → (height_of heights f < asked_of heights f) ⊎ (asked_of heights f ≤ height_of heights f) → IsCoveredWhole code certificate new (slice_index order j)
    more j before (inr le) =
        by_eq j i
        (λ e. let mine : IsCoveredWhole code certificate new f = kept-whole heights new f (none-raised le f) (λ g call. none-raised le g) (covered-whole heights f le) in
        subst (λ (n : ℕ). IsCoveredWhole code certificate new (slice_index order n)) (sym e) (subst (IsCoveredWhole code certificate new) at mine))
        (λ ne. kept-whole heights new (slice_index order j) (none-raised le (slice_index order j)) (λ g call. none-raised le g) (covered j (omega (arith, before, ne))))
    more j before (inl lt) =
        by_eq j i
        (λ e.
        let same : (g : ℕ) → Calls code f g → height_of new g ≡ height_of heights g = λ g call. other g (apart lt i g (omega arith) (subst (λ (n : ℕ). Calls code n g) at call)) in
        let mine : IsCoveredWhole code certificate new f = λ k op there.
        let asks = greatest-at (height_asked code certificate heights) (function_at code f).ops k op there in
        let old : AllByRecursion (λ g. height_of heights g + chunks_added (kind_of certificate op) ≤ value) (functions_called code op) =
        asked-all code certificate heights value op (omega (arith, asks, is)) in
        all-of (λ g. height_of new g + chunks_added (kind_of certificate op) ≤ height_of new f) (functions_called code op)
        (λ g h.
        let was = all-has (λ n. height_of heights n + chunks_added (kind_of certificate op) ≤ value) (functions_called code op) g old h in
        let e = same g (record { k = k; op = op; there = there; called = h }) in
        omega (arith, was, e, here)) in
        subst (λ (n : ℕ). IsCoveredWhole code certificate new (slice_index order n)) (sym e) (subst (IsCoveredWhole code certificate new) at mine))
        (λ ne.
        let lower : j < i = omega (arith, before, ne) in
        kept-whole heights new (slice_index order j) (other (slice_index order j) (not-before lt j lower))
        (λ g call. other g (apart lt j g (omega (arith, lower)) call)) (covered j lower))

    pub covered-more : AreCoveredBefore code certificate order new (i + 1)
    covered-more = λ j before. more j before (cases_lt (height_of heights f) (asked_of heights f))

  -- all functions are covered
  pub covered-all : (order heights : List ℕ) (end : ℕ) → length order ≤ end → ((f : ℕ) → f < length code.functions → StandsBefore order (length order) f) →
      AreCoveredBefore code certificate order heights end → AreCovered code certificate heights
  covered-all order heights end le all covered f k op there =
      let stands = all f (inside code f k op there) in
      subst (λ (n : ℕ). IsCoveredWhole code certificate heights n) stands.is (covered stands.place (let b = stands.before in omega (arith, b, le))) k op there
