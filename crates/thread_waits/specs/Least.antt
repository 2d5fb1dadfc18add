-- The least of some numbers.
use Rattle.std.specs.Prelude.{ℕ, ◌≤◌, List, All, Contains}

-- the number is one of these, and no other of them is less
pub record IsLeast (numbers : List ℕ) (least : ℕ) : Type 0 where
  pub there : Contains numbers least
  pub lowest : All (λ number. least ≤ number) numbers
