-- What a value tells that was made while another was held, or was put into a box or behind others.
use Rattle.scope_rules.proofs.Common.{◌≡◌, refl, Result, Ok, Err, List, [], ◌∷◌, ◌++◌, map, Box, IfOk, OnOk, MatchResult, Global, map-append}

-- a value in a box
pub boxed_fact : {T E : Type 0} (F : Type 0) (r : Result T E) (b : Result (Box T Global) E) → IfOk b (λ made. r ≡ Ok made.value) → OnOk r F → OnOk b F
boxed_fact F r (Ok made) e h = rw e at h
boxed_fact F r (Err x) e h = tt

-- a list with one more
pub pushed_view : {T E A : Type 0} (view : T → A) (r : Result T E) (xs ys : List T) (a : A) → MatchResult r (λ v. ys ≡ xs ++ (v ∷ [])) (λ _. ⊥) → IfOk r (λ v. view v ≡ a) → map view ys ≡ map view xs ++ (a ∷ [])
pushed_view view (Ok v) xs ys a e h = rw (e, map-append view xs (v ∷ []), h) refl
pushed_view view (Err x) xs ys a e h = absurd e

pub pushed_fact : {T E : Type 0} (P : T → Type 0) (F : Type 0) (r : Result T E) → MatchResult r P (λ _. ⊥) → OnOk r F → F
pushed_fact P F (Ok v) e h = h
pushed_fact P F (Err x) e h = absurd e

-- a pair with one more, whose first part was held
pub pushed_pair_fact : {S T E : Type 0} (P : S × T → Type 0) (F : Type 0) (r : Result T E) (b : Result (S × T) E) → MatchResult b P (λ _. ⊥) → IfOk b (λ p. r ≡ Ok p.1) → OnOk r F → F
pushed_pair_fact P F r (Ok p) m e h = rw e at h
pushed_pair_fact P F r (Err x) m e h = absurd m

-- a value behind one that was held
pub both_fact : {S T E : Type 0} (F : Type 0) (r : Result T E) (b : Result (S × T) E) → IfOk b (λ p. r ≡ Ok p.1) → OnOk r F → OnOk b F
both_fact F r (Ok p) e h = rw e at h
both_fact F r (Err y) e h = tt
