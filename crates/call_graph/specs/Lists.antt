-- Conditions on lists of numbers.
use Rattle.std.specs.Prelude.{ℕ, ◌==◌, ◌≡◌, Bool, false, ⊤, List, [], ◌∷◌}
use Rattle.std.specs.List.{list_any}

-- whether a number is in a list
abbrev pub has : ℕ → List ℕ → Bool
has n xs = list_any (λ x. x == n) xs

-- no number is in a list twice
abbrev pub IsOnce : List ℕ → Type 0
IsOnce [] = ⊤
IsOnce (x ∷ xs) = (has x xs ≡ false) × IsOnce xs
