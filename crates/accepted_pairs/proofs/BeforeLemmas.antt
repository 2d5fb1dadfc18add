-- The list of words before each operation.
use Rattle.accepted_pairs.proofs.Common.{◌≡◌, ℕ, ◌+◌, ◌^◌, ◌<◌, ◌≤◌, ◌++◌, lit<, List, [], ◌∷◌, length, arith, sym, ap, ◌∙◌, subst, inl, inr, slice_index, cases_lt, length_push, get_or_append_left, get_or_push, get_or_past}

pub count_more : (before after : List ℕ) (n w : ℕ) → length before ≡ n + 1 → after ≡ before ++ w ∷ [] → length after ≡ n + 1 + 1
count_more before after n w count e = ap length e ∙ (length_push before w ∙ ap (λ (k : ℕ). k + 1) count)

pushed : (before after : List ℕ) (n w i : ℕ) → length before ≡ n + 1 → after ≡ before ++ w ∷ [] → i < n + 1 → slice_index after i ≡ slice_index before i
pushed before after n w i count e lt = ap (λ (l : List ℕ). slice_index l i) e ∙ get_or_append_left before (w ∷ []) 0 i (omega arith)

last : (before after : List ℕ) (n w : ℕ) → length before ≡ n + 1 → after ≡ before ++ w ∷ [] → slice_index after (n + 1) ≡ w
last before after n w count e = ap (λ (l : List ℕ). slice_index l (n + 1)) e ∙ get_or_push before w 0 (n + 1) count

pub before_more : (before after : List ℕ) (n w : ℕ) (F : ℕ → ℕ) → length before ≡ n + 1 → after ≡ before ++ w ∷ [] → w ≡ F (n + 1) → ((i : ℕ) → i ≤ n → slice_index before i ≡ F i) →
    (i : ℕ) → i ≤ n + 1 → slice_index after i ≡ F i
before_more before after n w F count e is each i le = elim (cases_lt i (n + 1)) [
  | inl below ↦ pushed before after n w i count e below ∙ each i (omega arith)
  | inr above ↦
      (let at : n + 1 ≡ i = omega arith in
      subst (λ (k : ℕ). slice_index after k ≡ F k) at (last before after n w count e ∙ is))
]

pub range_more : (before after : List ℕ) (n w : ℕ) → length before ≡ n + 1 → after ≡ before ++ w ∷ [] → w < 2 ^ 54 → ((i : ℕ) → slice_index before i < 2 ^ 54) → (i : ℕ) → slice_index after i < 2 ^ 54
range_more before after n w count e room range i = elim (cases_lt i (n + 1)) [
  | inl below ↦ subst (λ (v : ℕ). v < 2 ^ 54) (sym (pushed before after n w i count e below)) (range i)
  | inr above ↦ elim (cases_lt (n + 1) i) [
    | inl past ↦
        (let none : slice_index after i ≡ 0 = get_or_past after i 0 (let c = count_more before after n w count e in omega arith) in
        subst (λ (v : ℕ). v < 2 ^ 54) (sym none) (lit< tt))
    | inr within ↦
        (let at : n + 1 ≡ i = omega arith in
        subst (λ (k : ℕ). slice_index after k < 2 ^ 54) at (subst (λ (v : ℕ). v < 2 ^ 54) (sym (last before after n w count e)) room))
  ]
]
