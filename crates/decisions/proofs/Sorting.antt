-- A list whose keys differ has an order in which they rise.
use Rattle.decisions.proofs.Common.{◌≡◌, ◌≢◌, ℕ, zero, suc, ◌+◌, ◌<◌, ◌≤◌, ◌⊎◌, inl, inr, false, List, [], ◌∷◌, map, eqb, arith, AllByRecursion, IsDistinct, IsPermutation, IsStrictlyIncreasing, cases_lt, eqb-false, All-from_recursion, recursion_from_All, All-permutation, IsPermutation-refl, IsPermutation-sym, IsPermutation-trans, IsPermutation-cons, IsPermutation-middle, IsDistinct-head, IsDistinct-tail}

module _ {A : Type 0} (key : A → ℕ) where
  -- each key is below all that follow
  abbrev pub Rises : List A → Type 0
  Rises [] = Unit {0}
  Rises (x ∷ xs) = AllByRecursion (λ y. key x < key y) xs × Rises xs

  pub record InOrder (xs : List A) : Type 0 where
    pub items : List A
    pub same : IsPermutation xs items
    pub rises : Rises items

  kept : (P : A → Type 0) (xs ys : List A) → IsPermutation xs ys → AllByRecursion P xs → AllByRecursion P ys
  kept P xs ys same all = recursion_from_All P ys (All-permutation P xs ys same (All-from_recursion P xs all))

  all_weaker : (P Q : A → Type 0) → ((x : A) → P x → Q x) → (xs : List A) → AllByRecursion P xs → AllByRecursion Q xs
  all_weaker P Q f [] all = tt
  all_weaker P Q f (x ∷ xs) all = (f x all.0, all_weaker P Q f xs all.1)

  swapped : (x y : A) (ys : List A) → IsPermutation (x ∷ y ∷ ys) (y ∷ x ∷ ys)
  swapped x y ys = IsPermutation-sym (y ∷ x ∷ ys) (x ∷ y ∷ ys) (IsPermutation-middle (y ∷ []) x ys)

  put : (x : A) (ys : List A) → AllByRecursion (λ y. key x ≢ key y) ys → Rises ys → InOrder (x ∷ ys)
  put x [] apart rises = record { items = x ∷ []; same = IsPermutation-refl (x ∷ []); rises = (tt, tt) }
  put x (y ∷ ys) apart rises = by (cases_lt (key x) (key y)) (put x ys apart.1 rises.1) where
    by : (key x < key y) ⊎ (key y ≤ key x) → InOrder (x ∷ ys) → InOrder (x ∷ y ∷ ys)
    by (inl below) more = record {
      items = x ∷ y ∷ ys;
      same = IsPermutation-refl (x ∷ y ∷ ys);
      rises = ((below, all_weaker (λ z. key y < key z) (λ z. key x < key z) (λ z h. omega (arith, below, h)) ys rises.0), rises);
    }
    by (inr past) more = record {
      items = y ∷ more.items;
      same = IsPermutation-trans (x ∷ y ∷ ys) (y ∷ x ∷ ys) (y ∷ more.items) (swapped x y ys) (IsPermutation-cons y (x ∷ ys) more.items more.same);
      rises = (kept (λ z. key y < key z) (x ∷ ys) more.items more.same ((let ne = apart.0 in omega (arith, past, ne)), rises.0), more.rises);
    }

  -- a key is none of some
  apart_from : (x : A) (xs : List A) → AllByRecursion (λ n. eqb (key x) n ≡ false) (map key xs) → AllByRecursion (λ y. key x ≢ key y) xs
  apart_from x [] all = tt
  apart_from x (y ∷ xs) all = (eqb-false (key x) (key y) all.0, apart_from x xs all.1)

  pub in_order : (xs : List A) → IsDistinct eqb (map key xs) → InOrder xs
  in_order [] distinct = record { items = []; same = IsPermutation-refl []; rises = tt }
  in_order (x ∷ xs) distinct =
      let more = in_order xs (IsDistinct-tail eqb (key x) (map key xs) distinct) in
      let apart = apart_from x xs (IsDistinct-head eqb (key x) (map key xs) distinct) in
      let o = put x more.items (kept (λ y. key x ≢ key y) xs more.items more.same apart) more.rises in
      record { items = o.items; same = IsPermutation-trans (x ∷ xs) (x ∷ more.items) o.items (IsPermutation-cons x xs more.items more.same) o.same; rises = o.rises }

  -- the keys rise strictly
  pub strictly : (xs : List A) → Rises xs → IsStrictlyIncreasing (map key xs)
  strictly (x ∷ y ∷ xs) rises zero within = rises.0.0
  strictly (x ∷ y ∷ xs) rises (suc k) within = let next : suc k + 1 ≡ suc (k + 1) = omega arith in rw next (strictly (y ∷ xs) rises.1 k (omega (arith, within)))
  strictly _ rises k within = absurd (omega (arith, within))
