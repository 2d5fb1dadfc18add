-- Places of calls in a list.
use Rattle.std.specs.Prelude.{ℕ, zero, suc, ◌+◌, ◌≡◌, nat_eq, List, [], ◌∷◌, if◌then◌else◌}

-- the number of times that a place occurs in the list
abbrev pub times : ℕ → List ℕ → ℕ
times at [] = 0
times at (p ∷ ps) = (if nat_eq p at then 1 else 0) + times at ps

-- this is element j of the list, counted from 0
abbrev pub StandsAt : List ℕ → ℕ → ℕ → Type 0
StandsAt [] j at = ⊥
StandsAt (p ∷ ps) zero at = p ≡ at
StandsAt (p ∷ ps) (suc j) at = StandsAt ps j at
