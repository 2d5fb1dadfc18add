-- The least of the numbers that the operations of a program have; each of them has at most one.
use Rattle.std.specs.Prelude.{ℕ, zero, suc, min, Option, Some, None, List, [], ◌∷◌}
use Rattle.flat_code.specs.declared.operations.Op.{Op}
use Rattle.flat_code.specs.Codes.{FlatCode, function_at}

-- the lesser of two optional numbers
abbrev pub lesser : Option ℕ → Option ℕ → Option ℕ
lesser None second = second
lesser (Some first) None = Some first
lesser (Some first) (Some second) = Some (min first second)

-- the least of a number and those of some operations
abbrev pub least_in : (Op → Option ℕ) → List Op → Option ℕ → Option ℕ
least_in number [] least = least
least_in number (op ∷ ops) least = least_in number ops (lesser least (number op))

-- the least of a number and those of the operations of the first n functions
abbrev pub least_below : (ℕ → Op → Option ℕ) → FlatCode → Option ℕ → ℕ → Option ℕ
least_below number code least zero = least
least_below number code least (suc n) = least_in (number n) (function_at code n).ops (least_below number code least n)
