-- A place for one more thread, and its record there.
use Rattle.std.specs.Prelude.{◌≡◌, ◌≢◌, ℕ, ◌+◌, ◌<◌, ◌≤◌, ◌^◌, length, Some, None, slice_set}
use Rattle.slab.specs.Slab.{get, HasRoomFor}
use Rattle.thread_waits.specs.Waiting.{wait_at}
use Rattle.thread_waits.specs.declared.waits.Wait.{Wait}
use Rattle.thread_core.specs.declared.records.Record.{Record}
use Rattle.thread_core.specs.declared.state.State.{State}

-- there may be more places, and nothing else has changed
pub record HasMorePlaces (old new : State) : Type 0 where
  pub slots : new.records.slots ≡ old.records.slots
  pub same : (place : ℕ) → wait_at new.waits place ≡ wait_at old.waits place
  pub longer : length old.waits.places ≤ length new.waits.places
  pub clock : new.waits.clock ≡ old.waits.clock
  pub rest : new ≡ record old { records = new.records; waits = new.waits }

-- there is room at this place for one more record
pub record HasPlaceFor (st : State) (place : ℕ) : Type 0 where
  pub next : st.records.vacant_key ≡ place
  pub vacant : get st.records place ≡ None
  pub room : HasRoomFor st.records 1
  pub there : place < length st.waits.places
  pub named : place < 2 ^ 32

-- one more record is at a place, of a thread that waits to run for the first time
pub record HasAdded (old : State) (place : ℕ) (r : Record) (new : State) : Type 0 where
  pub added : get new.records place ≡ Some r
  pub others : (other : ℕ) → other ≢ place → get new.records other ≡ get old.records other
  pub waits : new.waits ≡ record old.waits { places = slice_set old.waits.places place (Some Wait.Fresh) }
  pub rest : new ≡ record old { records = new.records; waits = new.waits; live = old.live + 1; next = old.next + 1 }
