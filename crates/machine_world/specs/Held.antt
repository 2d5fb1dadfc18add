-- No step of a thread loses a chunk or holds one twice.
use Rattle.std.specs.Prelude.{◌≡◌, ℕ, ◌+◌, List, nat_eq}
use Rattle.std.specs.List.{count_by}
use Rattle.cap_word.specs.Runs.{Goes, Asks, Stops}
use Rattle.chunk_pool.specs.Pool.{all_free, shape_of}
use Rattle.machine_world.specs.Local.{Local, LocalMove, Ended, Trapped, NoRoom, Wrong}

-- how often a chunk occurs in a list of chunks
abbrev pub copies : ℕ → List ℕ → ℕ
copies chunk chunks = count_by (λ other. nat_eq other chunk) chunks

-- how often it occurs in a thread's chain and the free lists together
abbrev pub copies_in : ℕ → Local → ℕ
copies_in chunk l = copies chunk l.core.chain + copies chunk (all_free l.areas.pool)

-- the chunk occurs in chain and free lists as often after the move as before; after the thread's end, in the free lists
-- alone
abbrev pub KeepsCopies : ℕ → Local → LocalMove → Type 0
KeepsCopies chunk l (Goes after) = copies_in chunk after ≡ copies_in chunk l
KeepsCopies chunk l (Asks question waiting) = waiting ≡ l
KeepsCopies chunk l (Stops (Ended areas)) = copies chunk (all_free areas.pool) ≡ copies_in chunk l
KeepsCopies chunk l (Stops (Trapped kind)) = Unit {0}
KeepsCopies chunk l (Stops NoRoom) = Unit {0}
KeepsCopies chunk l (Stops Wrong) = Unit {0}

-- the pool has the same shape after the move
abbrev pub KeepsShape : Local → LocalMove → Type 0
KeepsShape l (Goes after) = shape_of after.areas.pool ≡ shape_of l.areas.pool
KeepsShape l (Asks question waiting) = waiting ≡ l
KeepsShape l (Stops (Ended areas)) = shape_of areas.pool ≡ shape_of l.areas.pool
KeepsShape l (Stops (Trapped kind)) = Unit {0}
KeepsShape l (Stops NoRoom) = Unit {0}
KeepsShape l (Stops Wrong) = Unit {0}
