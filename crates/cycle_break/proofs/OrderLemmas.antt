-- One function more of the whole walk.
use Rattle.cycle_break.proofs.Common.{◌≡◌, ℕ, suc, ◌+◌, ◌-◌, ◌<◌, List, [], ◌∷◌, reverse, ◌++◌, refl, arith, reverse-append, reverse-reverse, AllByRecursion, CallGraphState, function_count, come, Walked, into_each, walk, numbers_from}
use Rattle.cycle_break.proofs.FinishLemmas.{into_each-left, walk-left}

-- the numbers from one on are it and the rest
pub numbers-more : (first end : ℕ) → first < end → numbers_from first (end - first) ≡ first ∷ numbers_from (first + 1) (end - (first + 1))
numbers-more first end lt = let one : end - first ≡ suc (end - (first + 1)) = omega arith in rw one refl

all-append : (P : ℕ → Type 0) (xs ys : List ℕ) → AllByRecursion P xs → AllByRecursion P ys → AllByRecursion P (xs ++ ys)
all-append P [] ys a b = b
all-append P (x ∷ xs) ys a b = (a.0, all-append P xs ys a.1 b)

all-reverse : (P : ℕ → Type 0) (xs : List ℕ) → AllByRecursion P xs → AllByRecursion P (reverse xs)
all-reverse P [] a = tt
all-reverse P (x ∷ xs) a = rw (reverse-append (x ∷ []) xs) (all-append P (reverse xs) (x ∷ []) (all-reverse P xs a.1) (a.0, tt))

-- what holds of each number of a list backward holds of each
pub all-reversed : (P : ℕ → Type 0) (xs : List ℕ) → AllByRecursion P (reverse xs) → AllByRecursion P xs
all-reversed P xs a = rw (← reverse-reverse xs) (all-reverse P (reverse xs) a)

module _ (graph : CallGraphState) (without : List ℕ) where
  abbrev pub walks : List ℕ → ℕ → Walked → Walked
  walks = walk graph.tables graph.sites without (function_count graph)

  -- the functions that are left where these are still to be visited
  abbrev pub left_after : List ℕ → List ℕ → List ℕ
  left_after fs left = (into_each walks [] fs (come left)).left

  pub left_after-more : (f : ℕ) (fs left left' : List ℕ) → left' ≡ left_after (f ∷ []) left → left_after fs left' ≡ left_after (f ∷ fs) left
  left_after-more f fs left left' e =
      into_each-left walks (walk-left graph.tables graph.sites without (function_count graph)) [] fs (come left') (into_each walks [] (f ∷ []) (come left)) e
