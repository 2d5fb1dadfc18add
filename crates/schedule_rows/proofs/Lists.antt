-- Lists of caps and uses, place by place.
use Rattle.std.proofs.Common.{ℕ, zero, suc, ◌≤◌, List, [], ◌∷◌, slice_index, arith}

-- no number is above that of the other list at its place
pub record IsBelow (xs ys : List ℕ) : Type 0 where
  pub each : (k : ℕ) → slice_index xs k ≤ slice_index ys k

pub IsBelow-nil : IsBelow [] []
IsBelow-nil = record { each = λ k. omega arith }

below_at : (x y : ℕ) (xs ys : List ℕ) → x ≤ y → IsBelow xs ys → (k : ℕ) → slice_index (x ∷ xs) k ≤ slice_index (y ∷ ys) k
below_at x y xs ys first rest zero = first
below_at x y xs ys first rest (suc k) = rest.each k

pub IsBelow-cons : (x y : ℕ) (xs ys : List ℕ) → x ≤ y → IsBelow xs ys → IsBelow (x ∷ xs) (y ∷ ys)
IsBelow-cons x y xs ys first rest = record { each = below_at x y xs ys first rest }

-- eight numbers, each at most its bound
pub IsBelow-eight : (a b c d e f g h a' b' c' d' e' f' g' h' : ℕ) → a ≤ a' → b ≤ b' → c ≤ c' → d ≤ d' → e ≤ e' → f ≤ f' → g ≤ g' → h ≤ h' →
    IsBelow (a ∷ b ∷ c ∷ d ∷ e ∷ f ∷ g ∷ h ∷ []) (a' ∷ b' ∷ c' ∷ d' ∷ e' ∷ f' ∷ g' ∷ h' ∷ [])
IsBelow-eight a b c d e f g h a' b' c' d' e' f' g' h' p q r s t u v w =
    IsBelow-cons a a' _ _ p (IsBelow-cons b b' _ _ q (IsBelow-cons c c' _ _ r (IsBelow-cons d d' _ _ s
    (IsBelow-cons e e' _ _ t (IsBelow-cons f f' _ _ u (IsBelow-cons g g' _ _ v (IsBelow-cons h h' _ _ w IsBelow-nil)))))))

-- no number of five zeroes is large
pub zeros : (k : ℕ) → slice_index (0 ∷ 0 ∷ 0 ∷ 0 ∷ 0 ∷ []) k ≤ 1000000
zeros zero = omega arith
zeros (suc zero) = omega arith
zeros (suc (suc zero)) = omega arith
zeros (suc (suc (suc zero))) = omega arith
zeros (suc (suc (suc (suc zero)))) = omega arith
zeros (suc (suc (suc (suc (suc k))))) = omega arith

-- eight caps of which two are at most 10 are small
pub small_eight : (first second : ℕ) → first ≤ 10 → second ≤ 10 →
    (k : ℕ) → slice_index (0 ∷ first ∷ second ∷ 0 ∷ 0 ∷ 0 ∷ 0 ∷ 0 ∷ []) k ≤ 1000000
small_eight first second h i zero = omega arith
small_eight first second h i (suc zero) = omega (arith, h)
small_eight first second h i (suc (suc zero)) = omega (arith, i)
small_eight first second h i (suc (suc (suc k))) = zeros k
