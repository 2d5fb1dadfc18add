-- Averages in which each new sample counts one eighth, scaled by 256.
use Rattle.std.specs.Prelude.{ℕ, ◌/◌, ℤ, pos, negsuc, ◌+ℤ◌, ◌-ℤ◌, ◌*ℤ◌, List, [], ◌∷◌}

-- a number divided by a divisor above 0, rounded down, for negative numbers too
abbrev pub floor_div : ℤ → ℕ → ℤ
floor_div (pos n) d = pos (n / d)
floor_div (negsuc n) d = negsuc (n / d)

-- the average of one sample
abbrev pub first_average : ℤ → ℤ
first_average sample = pos 256 *ℤ sample

-- the average after one more sample
abbrev pub next_average : ℤ → ℤ → ℤ
next_average average sample = (average -ℤ floor_div average 8) +ℤ (pos 32 *ℤ sample)

-- the averages of several quantities, after one more sample of each
abbrev pub next_averages : List ℤ → List ℤ → List ℤ
next_averages (average ∷ averages) (sample ∷ samples) = next_average average sample ∷ next_averages averages samples
next_averages _ _ = []
