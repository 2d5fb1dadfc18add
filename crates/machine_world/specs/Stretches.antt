-- Good stretches: a number of steps of a world along which no step is wrong, every live thread is in place, held and
-- free chunks are exactly the pool, and each load or store lies in the running frame or in one declared global or
-- table.
use Rattle.std.specs.Prelude.{ℕ, zero, suc, List, Option, Some, None}
use Rattle.std.specs.List.{AllByRecursion}
use Rattle.machine_world.specs.Local.{access_at}
use Rattle.machine_world.specs.Places.{Checked, Place}
use Rattle.machine_world.specs.InPlace.{Frame, HasFrames, IsInPlace, IsGoodAccess}
use Rattle.machine_world.specs.Threads.{Thread, World, Setting, thread_of, Move, Goes, Puts, Spawns, Blocks, Ends, Stops, Wrong, step}
use Rattle.machine_world.specs.Chains.{IsPartition}

-- every live thread is in place, and the chunks are partitioned
pub record IsSound (c : Checked) (w : World) : Type 0 where
  pub in_place : AllByRecursion (λ thread. IsInPlace c w.areas.pool thread.core) w.threads
  pub partition : IsPartition w

-- the next load or store of a thread, if there is one, is good
abbrev pub IsFramedStep : Checked → Setting → World → Option Thread → Type 0
IsFramedStep c s w None = ⊥
IsFramedStep c s w (Some thread) =
    (place : Place) × (frames : List Frame) × HasFrames c w.areas.pool thread.core place frames
    × IsGoodAccess c frames (access_at s.code (record { areas = w.areas; core = thread.core }))

abbrev pub IsFramedNext : Checked → Setting → World → Option ℕ → Type 0
IsFramedNext c s w None = ⊥
IsFramedNext c s w (Some number) = IsFramedStep c s w (thread_of w number)

-- the world after a move has this property; after a stop or a wrong step there is no world
abbrev pub OnWorld : Move → (World → Type 0) → Type 0
OnWorld (Goes after) P = P after
OnWorld (Puts value after) P = P after
OnWorld (Spawns number after) P = P after
OnWorld (Blocks after) P = P after
OnWorld (Ends after) P = P after
OnWorld (Stops stop) P = ⊥
OnWorld Wrong P = ⊥

-- a stretch of n steps from a world is good
abbrev pub IsGoodStretch : Checked → Setting → ℕ → World → Type 0
IsGoodStretch c s zero w = IsSound c w
IsGoodStretch c s (suc n) w = IsSound c w × IsFramedNext c s w w.running × OnWorld (step s w) (IsGoodStretch c s n)
