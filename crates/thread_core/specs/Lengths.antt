-- The length of a thread's chain, at each moment of a segment.
use Rattle.std.specs.Prelude.{◌≡◌, ℕ, zero, suc, ◌+◌, ◌-◌, ◌≤◌, List, length, Some}
use Rattle.std.specs.List.{AllByRecursion}
use Rattle.chunk_pool.specs.Pool.{Pool}
use Rattle.machine_world.specs.InPlace.{Frame, HasFrames, IsInPlace}
use Rattle.machine_world.specs.Keys.{called_at_links, chunk_ahead}
use Rattle.machine_world.specs.Local.{Core}
use Rattle.machine_world.specs.Places.{Checked, Place, row_of}
use Rattle.machine_world.specs.Runs.{after_action, Pick}
use Rattle.machine_world.specs.Stretches.{OnWorld}
use Rattle.machine_world.specs.Threads.{World, Setting, step}
use Rattle.segment_run.specs.Contexts.{checked_of}
use Rattle.thread_core.specs.Worlds.{Held}

-- a thread is in place, and for any frames that it has, its chain has at most one chunk, one more for each frame that
-- was called at a linked site, and one more while a linked chunk has no frame
pub record HasShortChain (c : Checked) (pool : Pool) (core : Core) : Type 0 where
  pub in_place : IsInPlace c pool core
  pub short : (place : Place) (frames : List Frame) → HasFrames c pool core place frames → length core.chain ≤ 1 + called_at_links c frames + chunk_ahead (row_of c place)

-- every live thread has such a chain
abbrev pub HaveShortChains : Checked → World → Type 0
HaveShortChains c w = AllByRecursion (λ thread. HasShortChain c w.areas.pool thread.core) w.threads

-- every live thread has such a chain, in a world and after each of n steps from it
abbrev pub ChainsStayShort : Checked → Setting → ℕ → World → Type 0
ChainsStayShort c s zero w = HaveShortChains c w
ChainsStayShort c s (suc n) w = HaveShortChains c w × OnWorld (step s w) (ChainsStayShort c s n)

-- the same in each world of the steps that a call makes from a world on
abbrev pub StepsKeepShort : Held → World → Held → Type 0
StepsKeepShort old from new = ChainsStayShort (checked_of old.accepted) old.setting (new.machine.cost - from.cost) from

-- the same for `begin`, whose steps start from the world after the pick of the thread
abbrev pub BeginsShort : Held → ℕ → Held → Type 0
BeginsShort old number new = (picked : World) → after_action old.setting old.machine (Pick number) ≡ Some picked → StepsKeepShort old picked new
