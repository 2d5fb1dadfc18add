-- The nodes of threads, by the slots of their records.
use Rattle.std.specs.Prelude.{ℕ, ◌≡◌, ◌≢◌, ◌<◌, ◌≤◌, List, length, slice_index}

-- a node was stored at a place, and all others are unchanged; there are no fewer places than before
pub record IsPut (old new : List ℕ) (slot node : ℕ) : Type 0 where
  pub place : slot < length new
  pub here : slice_index new slot ≡ node
  pub others : (other : ℕ) → other ≢ slot → slice_index new other ≡ slice_index old other
  pub longer : length old ≤ length new
