-- The current folder as a shelf, as contracts see it.
use Rattle.std.specs.Prelude.{ℕ}

-- the numbers of failed loads and failed stores
pub record FaultCounts : Type 0 where
  pub loads : ℕ
  pub stores : ℕ
