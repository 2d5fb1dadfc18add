-- Good runs: the actions of the machine that a log describes, entry by entry, each segment of which is a good stretch.
use Rattle.std.specs.Prelude.{ℕ, List, [], ◌∷◌, ◌++◌, replicate, Option, Some, None}
use Rattle.c_mean.specs.ModelledCalls.{Delivery}
use Rattle.machine_world.specs.Places.{Checked}
use Rattle.machine_world.specs.Runs.{Action, Deliver, Advance, Pick, Step, after_action, after_steps}
use Rattle.machine_world.specs.Stretches.{IsGoodStretch}
use Rattle.machine_world.specs.Threads.{World, Setting}

pub data Entry : Type 0 where
  -- an event is delivered: it joins its queue or is dropped
  Comes : (delivery : Delivery) → Entry
  -- the clock advances to a time
  Waits : (to : ℕ) → Entry
  -- a segment of a thread, with the number of its retired instructions
  Turn : (number cost : ℕ) → Entry

-- the actions of an entry, and of all entries
abbrev pub actions_of : Entry → List Action
actions_of (Comes delivery) = Deliver delivery ∷ []
actions_of (Waits to) = Advance to ∷ []
actions_of (Turn number cost) = Pick number ∷ replicate cost Step

abbrev pub all_actions : List Entry → List Action
all_actions [] = []
all_actions (entry ∷ entries) = actions_of entry ++ all_actions entries

-- the world exists and has this property
abbrev pub InWorld : Option World → (World → Type 0) → Type 0
InWorld None P = ⊥
InWorld (Some w) P = P w

-- from a world on, each entry can be done, and each segment is a good stretch of as many steps as its cost, from the
-- world in which it begins. In that world resuming has had its effect: the call's result in a0, and the queues and uses
-- after it.
abbrev pub IsGoodRun : Checked → Setting → List Entry → World → Type 0
IsGoodRun c s [] w = Unit {0}
IsGoodRun c s (Comes delivery ∷ entries) w = InWorld (after_action s w (Deliver delivery)) (IsGoodRun c s entries)
IsGoodRun c s (Waits to ∷ entries) w = InWorld (after_action s w (Advance to)) (IsGoodRun c s entries)
IsGoodRun c s (Turn number cost ∷ entries) w =
    InWorld (after_action s w (Pick number)) (λ begun. IsGoodStretch c s cost begun × InWorld (after_steps s cost begun) (IsGoodRun c s entries))
