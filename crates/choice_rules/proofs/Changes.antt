-- The uses of the eight resources, and their changes.
use Rattle.std.proofs.lemmas.Int.{ints}
use Rattle.choice_rules.proofs.Common.{◌≡◌, ℕ, zero, suc, ◌<◌, ◌≤◌, ◌^◌, ℤ, pos, List, [], ◌∷◌, length, drop, refl, sym, ap, ◌∙◌, subst, arith, slice_index, slice_index_or, ◌-ℤ◌, unsigned_abs, All, changes}

pub at_drop : (xs : List ℕ) (r : ℕ) → slice_index (drop 1 xs) r ≡ slice_index xs (suc r)
at_drop [] r = refl
at_drop (x ∷ xs) r = refl

pub drop_long : (xs : List ℕ) → length xs ≡ 8 → length (drop 1 xs) ≡ 7
drop_long [] e = absurd (omega (arith, e))
drop_long (x ∷ xs) e = omega (arith, e)

-- lists of eight with the same elements are the same
same_lists : (n : ℕ) (xs ys : List ℕ) → length xs ≡ n → length ys ≡ n → ((r : ℕ) → r < n → slice_index xs r ≡ slice_index ys r) → xs ≡ ys
same_lists n [] [] x y same = refl
same_lists n [] (b ∷ ys) x y same = absurd (let no : 0 ≡ suc (length ys) = x ∙ sym y in omega (arith, no))
same_lists n (a ∷ xs) [] x y same = absurd (let no : suc (length xs) ≡ 0 = x ∙ sym y in omega (arith, no))
same_lists zero (a ∷ xs) (b ∷ ys) x y same = absurd (omega (arith, x))
same_lists (suc n) (a ∷ xs) (b ∷ ys) x y same =
    let head : a ≡ b = same 0 (omega arith) in
    let tail : xs ≡ ys = same_lists n xs ys (omega (arith, x)) (omega (arith, y)) (λ r below. same (suc r) (omega (arith, below))) in
    ap (λ (c : ℕ). c ∷ xs) head ∙ ap (λ (l : List ℕ). b ∷ l) tail

pub same_eight : (xs ys : List ℕ) → length xs ≡ 8 → length ys ≡ 8 → ((r : ℕ) → r < 8 → slice_index xs r ≡ slice_index ys r) → xs ≡ ys
same_eight xs ys x y same = same_lists 8 xs ys x y same

-- ---- changes

-- each of the first changes is the difference of the uses
abbrev pub Changed : ℕ → List ℕ → List ℕ → List ℤ → Type 0
Changed n before after change = (r : ℕ) → r < n → slice_index_or change r (pos 0) ≡ pos (slice_index after r) -ℤ pos (slice_index before r)

changes_by : (n : ℕ) (before after : List ℕ) (change : List ℤ) → length before ≡ n → length after ≡ n → length change ≡ n → Changed n before after change →
    change ≡ changes before after
changes_by zero [] [] [] b a c same = refl
changes_by (suc n) (x ∷ before) (y ∷ after) (z ∷ change) b a c same =
    let head : z ≡ pos y -ℤ pos x = same 0 (omega arith) in
    let tail : change ≡ changes before after = changes_by n before after change (omega (arith, b)) (omega (arith, a)) (omega (arith, c))
    (λ r below. same (suc r) (omega (arith, below))) in
    ap (λ (v : ℤ). v ∷ change) head ∙ ap (λ (l : List ℤ). (pos y -ℤ pos x) ∷ l) tail
changes_by zero [] (y ∷ after) change b a c same = absurd (omega (arith, a))
changes_by zero [] [] (z ∷ change) b a c same = absurd (omega (arith, c))
changes_by (suc n) (x ∷ before) [] change b a c same = absurd (omega (arith, a))
changes_by (suc n) (x ∷ before) (y ∷ after) [] b a c same = absurd (omega (arith, c))
changes_by _ _ after change b a c same = absurd (omega (arith, b))

pub changes_are : (before after : List ℕ) (change : List ℤ) → length before ≡ 8 → length after ≡ 8 → length change ≡ 8 → Changed 8 before after change →
    change ≡ changes before after
changes_are before after change b a c same = changes_by 8 before after change b a c same

small_change : (a b : ℕ) → a ≤ 1000000 → b ≤ 1000000 → unsigned_abs (pos a -ℤ pos b) ≤ 2 ^ 31
small_change a b h k = grind (arith, ints, h, k)

at_default : (change : List ℤ) (k : ℕ) (d : ℤ) → k < length change → slice_index_or change k d ≡ slice_index_or change k (pos 0)
at_default [] k d h = absurd (omega (arith, h))
at_default (z ∷ change) zero d h = refl
at_default (z ∷ change) (suc k) d h = at_default change k d (omega (arith, h))

pub small_changes : (before after : List ℕ) (change : List ℤ) → length change ≡ 8 → Changed 8 before after change →
    ((r : ℕ) → r < 8 → slice_index before r ≤ 1000000) → ((r : ℕ) → r < 8 → slice_index after r ≤ 1000000) →
    All (λ z. unsigned_abs z ≤ 2 ^ 31) change
small_changes before after change eight same b a k d below =
    let in_eight : k < 8 = omega (arith, below, eight) in
    subst (λ (z : ℤ). unsigned_abs z ≤ 2 ^ 31) (sym (at_default change k d below ∙ same k in_eight))
    (small_change (slice_index after k) (slice_index before k) (a k in_eight) (b k in_eight))
