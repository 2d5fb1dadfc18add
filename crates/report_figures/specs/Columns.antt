-- The column of a clock in a timeline.
use Rattle.std.specs.Prelude.{ℕ, ◌*◌, ◌/◌, nat_lt, if◌then◌else◌}

-- the run's time in 1,200 columns of the same width, up to its end
abbrev pub column_at : ℕ → ℕ → ℕ
column_at clock end = if nat_lt clock end then clock * 1200 / end else 1199
