-- Good steps of one thread, one after another: each from a state that is in place, with a good access.
use Rattle.std.specs.Prelude.{◌≡◌, ℕ, zero, suc, ◌≤◌, List, nat_lt, if◌then◌else◌}
use Rattle.cap_word.specs.Runs.{Goes}
use Rattle.machine_world.specs.Held.{copies_in}
use Rattle.machine_world.specs.InPlace.{Frame, HasFrames, IsGoodAccess}
use Rattle.machine_world.specs.Local.{Local, LocalMove, local_step, access_at}
use Rattle.machine_world.specs.Places.{Checked, Place}
use Rattle.machine_world.specs.WellFormed.{AreWellFormed, IsCore}

-- each chunk occurs at most once in the thread's chain and the free lists together, and no number from the count on
-- occurs
pub record Owns (l : Local) : Type 0 where
  pub once : (chunk : ℕ) → copies_in chunk l ≤ (if nat_lt chunk l.areas.pool.count then 1 else 0)

-- areas and thread are well formed
pub record HasForm (c : Checked) (l : Local) : Type 0 where
  pub areas : AreWellFormed c l.areas
  pub core : IsCore l.core
  pub owns : Owns l

-- the thread is in place, and its next load or store is good
pub record IsGoodState (c : Checked) (code : List ℕ) (l : Local) : Type 0 where
  pub place : Place
  pub frames : List Frame
  pub in_place : HasFrames c l.areas.pool l.core place frames
  pub access : IsGoodAccess c frames (access_at code l)

abbrev pub WayIn : Checked → List ℕ → ℕ → Local → Local → Type 0
WayIn c code zero l after = l ≡ after
WayIn c code (suc n) l after = IsGoodState c code l × ((next : Local) × (local_step code l ≡ Goes next) × WayIn c code n next after)

-- this number of good steps leads from one state to another
pub record Leads (c : Checked) (code : List ℕ) (n : ℕ) (l after : Local) : Type 0 where
  pub way : WayIn c code n l after

-- good steps from a good state, followed by a step with this outcome
pub record ComesTo (c : Checked) (code : List ℕ) (n : ℕ) (l : Local) (move : LocalMove) : Type 0 where
  pub at : Local
  pub leads : Leads c code n l at
  pub good : IsGoodState c code at
  pub move_is : local_step code at ≡ move
