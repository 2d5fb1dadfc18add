-- The number of large enough chunks of a pool, and the number that all threads hold.
use Rattle.std.specs.Prelude.{ℕ, zero, suc, ◌+◌, List, [], ◌∷◌, length, if◌then◌else◌}
use Rattle.chunk_pool.specs.Pool.{Pool, fits}
use Rattle.machine_world.specs.Threads.{Thread}

-- the number of the first n chunks that have a payload of at least this many bytes
abbrev pub roomy_below : Pool → ℕ → ℕ → ℕ
roomy_below p bytes zero = 0
roomy_below p bytes (suc n) = roomy_below p bytes n + (if fits p bytes n then 1 else 0)

-- the number of such chunks of a pool
abbrev pub roomy : Pool → ℕ → ℕ
roomy p bytes = roomy_below p bytes p.count

-- the number of chunks that some threads hold
abbrev pub all_held : List Thread → ℕ
all_held [] = 0
all_held (thread ∷ threads) = length thread.core.chain + all_held threads
