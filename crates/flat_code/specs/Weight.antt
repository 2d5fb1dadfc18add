-- The bytes of a frame.
use Rattle.std.specs.Prelude.{ℕ, ◌+◌, ◌*◌, ◌/◌, List, sum}

-- the least multiple of 16 that isn't below this number
abbrev pub rounded_up : ℕ → ℕ
rounded_up bytes = (bytes + 15) / 16 * 16

-- four bytes for each word of a variable and four for the return address
abbrev pub weight_of : List ℕ → ℕ
weight_of sizes = rounded_up (4 * sum sizes + 4)
