-- Windows of clocks.
use Rattle.std.specs.Prelude.{ℕ, Bool, ◌&&◌, nat_le}

-- a clock is at least the first one and at most the last one
abbrev pub is_within : ℕ → ℕ → ℕ → Bool
is_within from to clock = nat_le from clock && nat_le clock to
