-- Lists by number: what stands at each number of a list that a function gives.
use Rattle.machine_meaning.proofs.Common.{◌≡◌, ℕ, zero, suc, ◌+◌, ◌<◌, ◌≤◌, List, [], ◌∷◌, ◌++◌, length, map, Option, Some, None, refl, ap, ◌∙◌, arith, slice_index, slice_index_or}

-- the values at n numbers from s on
pub numbered : {A : Type 0} → (ℕ → A) → (s n : ℕ) → List A
numbered g s zero = []
numbered g s (suc n) = g s ∷ numbered g (s + 1) n

pub numbered_length : {A : Type 0} (g : ℕ → A) (s n : ℕ) → length (numbered g s n) ≡ n
unfolding numbered
numbered_length g s zero = refl
numbered_length g s (suc n) = ap suc (numbered_length g (s + 1) n)

pub numbered_at : {A : Type 0} (g : ℕ → A) (s n k : ℕ) (d : A) → k < n → slice_index_or (numbered g s n) k d ≡ g (s + k)
unfolding numbered
numbered_at g s zero k d lt = absurd (omega arith)
numbered_at g s (suc n) zero d lt = ap g (omega arith)
numbered_at g s (suc n) (suc k) d lt = numbered_at g (s + 1) n k d (omega arith) ∙ ap g (omega arith)

pub past_end : {A : Type 0} (xs : List A) (i : ℕ) (d : A) → length xs ≤ i → slice_index_or xs i d ≡ d
past_end [] i d le = refl
past_end (x ∷ xs) zero d le = absurd (omega arith)
past_end (x ∷ xs) (suc i) d le = past_end xs i d (omega arith)

-- one row's length
pub row_length : (rows : List (List ℕ)) (widths : List ℕ) (x : ℕ) → map length rows ≡ widths → length (slice_index_or rows x []) ≡ slice_index widths x
row_length rows widths x e = widths_at rows x ∙ ap (λ (ns : List ℕ). slice_index ns x) e
  where
    widths_at : (rows : List (List ℕ)) (x : ℕ) → length (slice_index_or rows x []) ≡ slice_index (map length rows) x
    widths_at [] x = refl
    widths_at (row ∷ rows) zero = refl
    widths_at (row ∷ rows) (suc x) = widths_at rows x

pub rows_length : (rows : List (List ℕ)) (widths : List ℕ) → map length rows ≡ widths → length rows ≡ length widths
rows_length rows widths e = mapped rows ∙ ap length e
  where
    mapped : (rows : List (List ℕ)) → length rows ≡ length (map length rows)
    mapped [] = refl
    mapped (row ∷ rows) = ap suc (mapped rows)

-- the arguments of a frame that is pushed stand in its first variables
pub argument_at : (arguments : List ℕ) (rest : List (Option (List ℕ))) (x : ℕ) → x < length arguments → slice_index_or (map (λ v. Some (v ∷ [])) arguments ++ rest) x None ≡ Some (slice_index arguments x ∷ [])
argument_at [] rest x lt = absurd (omega arith)
argument_at (v ∷ arguments) rest zero lt = refl
argument_at (v ∷ arguments) rest (suc x) lt = argument_at arguments rest x (omega arith)
