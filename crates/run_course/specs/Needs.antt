-- The needs that are recorded for the waiting threads are correct.
use Rattle.std.specs.Prelude.{ℕ, ◌≡◌, Some}
use Rattle.std.specs.List.{AllByRecursion}
use Rattle.machine_world.specs.Threads.{Thread, World, thread_of}
use Rattle.ready_tree.specs.declared.entries.Entry.{Entry}
use Rattle.scheduler.specs.State.{SchedulerState, entries_at}
use Rattle.stride_rule.specs.declared.clients.Client.{Client}
use Rattle.stride_rule.specs.State.{StrideState, waiting_of}
use Rattle.stride_rule.specs.Told.{need_of}
use Rattle.thread_core.specs.Needs.{need_of_blocked}

-- the thread lives, and this is its need
pub record IsNeeded (w : World) (entry : Entry) : Type 0 where
  pub thread : Thread
  pub live : thread_of w entry.thread.number ≡ Some thread
  pub need : entry.need ≡ need_of_blocked thread.blocked

pub record AreNeeded (w : World) (scheduler : SchedulerState) : Type 0 where
  pub each : (node : ℕ) → AllByRecursion (IsNeeded w) (entries_at scheduler node)

-- what is recorded for a waiting thread under the stride rule is its need
abbrev pub IsNeededClient : World → StrideState → Client → Type 0
IsNeededClient w rule client = IsNeeded w (record { thread = client.thread; need = need_of client.thread.number rule.needs })

abbrev pub AreNeededByStrides : World → StrideState → Type 0
AreNeededByStrides w rule = AllByRecursion (IsNeededClient w rule) (waiting_of rule)
