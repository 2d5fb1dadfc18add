-- The words of lists joined end to end, and of lists that are compared piece by piece.
use Rattle.rule_failures.proofs.Common.{◌≡◌, ℕ, zero, suc, ◌+◌, ◌-◌, ◌<◌, ◌≤◌, Bool, true, false, List, [], ◌∷◌, ◌++◌, length, take, arith, refl, sym, ap, ◌∙◌, subst, zero-add, Some, None, inl, inr, below_more, slice_get, slice_index_or, sum_by, flat_map, nat_lt, if◌then◌else◌, cases_lt, ltb-true, ltb-false, slice_get_past, slice_get-get_or, IsFirst, IsFirstOther}
use Rattle.std.proofs.lemmas.List.Concat.{flat_map-cons, length-flat_map}
use Rattle.std.proofs.lemmas.List.Sums.{sum_by-cons}

piece_left : (xs ys : List ℕ) (k : ℕ) → k < length xs → slice_get (xs ++ ys) k ≡ slice_get xs k
piece_left [] ys k lt = absurd (omega arith)
piece_left (x ∷ xs) ys zero lt = refl
piece_left (x ∷ xs) ys (suc k) lt = piece_left xs ys k (omega arith)

piece_right : (xs ys : List ℕ) (k : ℕ) → slice_get (xs ++ ys) (length xs + k) ≡ slice_get ys k
piece_right [] ys k = ap (λ (n : ℕ). slice_get ys n) (zero-add k)
piece_right (x ∷ xs) ys k =
    let next : length (x ∷ xs) + k ≡ suc (length xs + k) = omega arith in
    ap (λ (n : ℕ). slice_get (x ∷ (xs ++ ys)) n) next ∙ piece_right xs ys k

-- word k of piece t stands behind the pieces before it
pub piece_at : {X : Type 0} (F : X → List ℕ) (xs : List X) (t k : ℕ) (x : X) → t < length xs → x ≡ slice_index_or xs t x → k < length (F x) →
    slice_get (flat_map F xs) (sum_by (λ y. length (F y)) (take t xs) + k) ≡ slice_get (F x) k
piece_at F [] t k x lt at in_piece = absurd (omega arith)
piece_at F (y ∷ ys) zero k x lt at in_piece =
    let room : k < length (F y) = subst (λ z. k < length (F z)) at in_piece in
    ap (λ (n : ℕ). slice_get (flat_map F (y ∷ ys)) n) (zero-add k) ∙
    (ap (λ (l : List ℕ). slice_get l k) (flat_map-cons F y ys) ∙
    (piece_left (F y) (flat_map F ys) k room ∙ ap (λ z. slice_get (F z) k) (sym at)))
piece_at F (y ∷ ys) (suc t) k x lt at in_piece =
    let s : ℕ = sum_by (λ z. length (F z)) (take t ys) in
    let next : sum_by (λ z. length (F z)) (take (suc t) (y ∷ ys)) + k ≡ length (F y) + (s + k) = omega (arith, sum_by-cons (λ z. length (F z)) y (take t ys)) in
    ap (λ (n : ℕ). slice_get (flat_map F (y ∷ ys)) n) next ∙
    (ap (λ (l : List ℕ). slice_get l (length (F y) + (s + k))) (flat_map-cons F y ys) ∙
    (piece_right (F y) (flat_map F ys) (s + k) ∙ piece_at F ys t k x (omega arith) at in_piece))

-- the same, where the sizes of the pieces are known
sized : {X : Type 0} (F : X → List ℕ) (n : X → ℕ) → ((x : X) → length (F x) ≡ n x) → (xs : List X) → sum_by (λ y. length (F y)) xs ≡ sum_by n xs
sized F n size [] = refl
sized F n size (x ∷ xs) =
    let here = size x in
    let rest = sized F n size xs in
    omega (arith, sum_by-cons (λ y. length (F y)) x xs, sum_by-cons n x xs)

sized_piece : {X : Type 0} (F : X → List ℕ) (n : X → ℕ) → ((x : X) → length (F x) ≡ n x) → (xs : List X) (t k : ℕ) (x : X) (passed : ℕ) → t < length xs →
    x ≡ slice_index_or xs t x → passed ≡ sum_by n (take t xs) → k < length (F x) → slice_get (flat_map F xs) (passed + k) ≡ slice_get (F x) k
sized_piece F n size xs t k x passed lt at is less =
    ap (λ (p : ℕ). slice_get (flat_map F xs) (p + k)) (is ∙ sym (sized F n size (take t xs))) ∙ piece_at F xs t k x lt at less

pub sized_whole : {X : Type 0} (F : X → List ℕ) (n : X → ℕ) → ((x : X) → length (F x) ≡ n x) → (xs : List X) → sum_by n xs ≡ length (flat_map F xs)
sized_whole F n size xs = sym (length-flat_map F xs ∙ sized F n size xs)

-- ---- words that are compared with a list piece by piece

-- one more word of a piece
pub word_more : (expected words : List ℕ) (passed k word : ℕ) → slice_get words (passed + k) ≡ Some word → slice_get expected k ≡ Some word →
    ((j : ℕ) → j < k → slice_get words (passed + j) ≡ slice_get expected j) → (j : ℕ) → j < k + 1 → slice_get words (passed + j) ≡ slice_get expected j
word_more expected words passed k word there here before j less = below_more (λ (n : ℕ). slice_get words (passed + n) ≡ slice_get expected n) k before (there ∙ sym here) j less

-- a word that differs in a piece is the first that differs in the whole list
pub differs_in : {X : Type 0} (F : X → List ℕ) (n : X → ℕ) → ((x : X) → length (F x) ≡ n x) → (xs : List X) (t : ℕ) (x : X) (words : List ℕ) (passed i : ℕ) → t < length xs →
    x ≡ slice_index_or xs t x → passed ≡ sum_by n (take t xs) → ((j : ℕ) → j < passed → slice_get words j ≡ slice_get (flat_map F xs) j) →
    IsFirstOther (F x) words passed (Some i) → IsFirst (λ j. slice_get words j ≡ slice_get (flat_map F xs) j) (Some i)
differs_in F n size xs t x words passed i lt at is before h =
    let k = h.0 in
    let whole : (j : ℕ) → j < length (F x) → slice_get (flat_map F xs) (passed + j) ≡ slice_get (F x) j = λ j less. sized_piece F n size xs t j x passed lt at is less in
    let P : ℕ → Type 0 = λ j. slice_get words j ≡ slice_get (flat_map F xs) j in (
      λ same. h.3 (let moved : P (passed + k) = subst P h.2 same in moved ∙ whole k h.1),
      λ j less. elim (cases_lt j passed) [
        | inl below ↦ before j below
        | inr above ↦
            (let here : passed + (j - passed) ≡ j = omega arith in
            let inside : j - passed < k = omega (arith, h.2) in
            subst P here (h.4 (j - passed) inside ∙ sym (whole (j - passed) (omega (arith, h.1)))))
      ],
    )

-- where no word of a piece differs, the words are those of the list so far
pub agrees_more : {X : Type 0} (F : X → List ℕ) (n : X → ℕ) → ((x : X) → length (F x) ≡ n x) → (xs : List X) (t : ℕ) (x : X) (words : List ℕ) (passed : ℕ) → t < length xs →
    x ≡ slice_index_or xs t x → passed ≡ sum_by n (take t xs) → ((j : ℕ) → j < passed → slice_get words j ≡ slice_get (flat_map F xs) j) →
    IsFirstOther (F x) words passed None → (j : ℕ) → j < passed + n x → slice_get words j ≡ slice_get (flat_map F xs) j
agrees_more F n size xs t x words passed lt at is before h j less = elim (cases_lt j passed) [
  | inl below ↦ before j below
  | inr above ↦
      (let here : passed + (j - passed) ≡ j = omega arith in
      let inside : j - passed < length (F x) = omega (arith, size x) in
      let P : ℕ → Type 0 = λ i. slice_get words i ≡ slice_get (flat_map F xs) i in
      subst P here (h (j - passed) inside ∙ sym (sized_piece F n size xs t (j - passed) x passed lt at is inside)))
]

-- where all words of the list were passed, the first that differs is the first one too many
pub differs_behind : (expected words : List ℕ) (passed : ℕ) → passed ≡ length expected → ((j : ℕ) → j < passed → slice_get words j ≡ slice_get expected j) →
    IsFirst (λ j. slice_get words j ≡ slice_get expected j) (if nat_lt passed (length words) then Some passed else None)
differs_behind expected words passed whole before = by (nat_lt passed (length words)) refl
  where
    by : (b : Bool) → nat_lt passed (length words) ≡ b → IsFirst (λ j. slice_get words j ≡ slice_get expected j) (if b then Some passed else None)
    by true e = (
      λ same.
          let more : passed < length words = ltb-true passed (length words) e in
          let none : slice_get expected passed ≡ None = slice_get_past expected passed (omega arith) in
          let some : slice_get words passed ≡ Some (slice_index_or words passed 0) = slice_get-get_or words passed 0 more in
          let both : Some (slice_index_or words passed 0) ≡ None = sym some ∙ (same ∙ none) in
          cc,
      before,
    )
    by false e = λ j. elim (cases_lt j passed) [
      | inl below ↦ before j below
      | inr above ↦
          (let few : length words ≤ passed = ltb-false passed (length words) e in
          slice_get_past words j (omega arith) ∙ sym (slice_get_past expected j (omega arith)))
    ]
