-- A 0 more at the end of a list changes nothing where a place without a number counts as 0.
use Rattle.std.proofs.Common.{arith, ◌≡◌, ◌≤◌, ◌+◌, ◌-◌, ℕ, zero, suc, List, [], ◌∷◌, ◌++◌, get_or, refl}

pub zero_more : (numbers : List ℕ) (place : ℕ) → get_or (numbers ++ 0 ∷ []) place 0 ≡ get_or numbers place 0
zero_more [] zero = refl
zero_more [] (suc place) = refl
zero_more (x ∷ numbers) zero = refl
zero_more (x ∷ numbers) (suc place) = zero_more numbers place

-- a list that is one longer wants one less to have a place
pub one_nearer : (before after place : ℕ) → after ≡ before + 1 → before ≤ place → after + (place + 1 - after) ≡ before + (place + 1 - before)
one_nearer before after place longer within = omega arith
