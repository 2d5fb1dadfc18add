-- The number of units of a resource that a thread holds.
use Rattle.std.specs.Prelude.{ℤ, pos, Option, Some, None}

-- the recorded number of a thread; 0 if there is none
abbrev pub held_in : Option ℤ → ℤ
held_in None = pos 0
held_in (Some units) = units
