-- Held and free chunks are exactly the pool.
use Rattle.std.specs.Prelude.{◌≡◌, ℕ, ◌+◌, List, [], ◌∷◌, if◌then◌else◌, nat_lt}
use Rattle.machine_world.specs.Held.{copies}
use Rattle.machine_world.specs.Threads.{Thread, World}
use Rattle.chunk_pool.specs.Pool.{Pool, all_free}

-- how often a chunk occurs in the chains of threads
abbrev pub held_copies : ℕ → List Thread → ℕ
held_copies chunk [] = 0
held_copies chunk (thread ∷ threads) = copies chunk thread.core.chain + held_copies chunk threads

-- every chunk is free
abbrev pub AreAllFree : Pool → Type 0
AreAllFree pool = (chunk : ℕ) → copies chunk (all_free pool) ≡ (if nat_lt chunk pool.count then 1 else 0)

-- in the chains of all live threads and the free lists together, each number below the count occurs once, and no other
-- number occurs
abbrev pub IsPartition : World → Type 0
IsPartition w = (chunk : ℕ) → held_copies chunk w.threads + copies chunk (all_free w.areas.pool) ≡ (if nat_lt chunk w.areas.pool.count then 1 else 0)
