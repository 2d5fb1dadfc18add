-- A run starts between segments.
use Rattle.std.proofs.Common.{◌≡◌, ℕ, Option, Some, None}
use Rattle.chunk_pool.specs.Pool.{Taken, taken_for}
use Rattle.machine_world.specs.Areas.{Areas}
use Rattle.machine_world.specs.Runs.{empty_world, started_on, start_world}
use Rattle.machine_world.specs.Threads.{World}
use Rattle.accepted_pairs.specs.Acceptance.{Acceptance}
use Rattle.thread_core.specs.Worlds.{Held}
use Rattle.thread_core.specs.Making.{IsStart}
use Rattle.thread_core.specs.declared.policy.WorldPolicy.{WorldPolicy}
use Rattle.report.specs.Between.{IsBetween}

started_rests : (areas : Areas) (entry : ℕ) (taken : Option Taken) (w : World) → started_on (empty_world areas) entry taken ≡ Some w → w.running ≡ None
started_rests areas entry None w is = absurd cc
started_rests areas entry (Some taken) w is = cc

pub start_rests : (areas : Areas) (entry need : ℕ) (w : World) → start_world areas entry need ≡ Some w → w.running ≡ None
unfolding start_world
start_rests areas entry need w is = started_rests areas entry (taken_for areas.pool need) w is

-- the run hasn't stopped then, and no segment is under way
pub start_is_between : (accepted : Acceptance) (policy : WorldPolicy) (fuel : ℕ) (held : Held) → IsStart accepted policy fuel held → IsBetween held
start_is_between accepted policy fuel held is = (is.stopped, start_rests _ _ _ _ is.machine)
