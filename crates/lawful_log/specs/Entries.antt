-- The entries of a run's segment: they are allowed, and the run corresponds to the state after each.
use Rattle.std.specs.Prelude.{◌≡◌, ◌≢◌, ℕ, ◌-◌, Bool, true, false, List, [], Option, None, Some}
use Rattle.blocking_graph.specs.Nodes.{node_number}
use Rattle.cap_word.specs.Word.{signed}
use Rattle.cap_word.specs.declared.calls.Block.{Block}
use Rattle.c_mean.specs.Frames.{Waiting, key_of}
use Rattle.c_mean.specs.World as source
use Rattle.event_trace.specs.declared.events.Event.{Event}
use Rattle.choice_rules.specs.Trace.{IsNext}
use Rattle.choice_rules.specs.Seen.{Waiter}
use Rattle.choice_rules.specs.Clock.{is_due}
use Rattle.choice_rules.specs.Deliveries.{delivery_of, item_of}
use Rattle.lawful_log.specs.Choice.{IsRun}
use Rattle.lawful_log.specs.Deliveries.{IsComing}
use Rattle.lawful_log.specs.Good.{checked_of}
use Rattle.lawful_log.specs.Segments.{IsOut, IsBlock, IsEnd}
use Rattle.lawful_log.specs.Setup.{Setup, setting_of}
use Rattle.lawful_log.specs.State.{Segment, State}
use Rattle.machine_world.specs.Runs.{delivered}
use Rattle.machine_world.specs.StandsForWorld.{IsBlockedAt}
use Rattle.machine_world.specs.Threads.{Thread, World, thread_of}
use Rattle.lawful_log.specs.Within.{IsBetween, IsWithin}
use Rattle.chunk_pool.specs.Pool.{free_count}

-- a value that is put is an `out` entry, and the segment continues
pub record PutsHere (g : Setup) (state : State) (segment : Segment) (begun word : ℕ) (after : World) (waiting : List Waiter) : Type 0 where
  pub new : State
  pub new_segment : Segment
  pub allowed : IsOut g state segment.thread (signed word) new
  pub within : IsWithin g new new_segment begun after waiting

-- a thread that blocks, with the call at which it waits in the source, is a `block` entry at the node of that call's
-- key
pub record BlocksHere (g : Setup) (state : State) (segment : Segment) (begun : ℕ) (after : World) (world : source.World) : Type 0 where
  pub thread : Thread
  pub live : thread_of after segment.thread ≡ Some thread
  pub block : Block
  pub waiting : Waiting
  pub blocked : IsBlockedAt (checked_of g) g.program after.areas.pool thread block waiting
  pub new : State
  pub allowed : IsBlock g state segment.thread (node_number state.past.keys (key_of waiting)) (key_of waiting) (after.cost - begun) (free_count after.areas.pool) new
  pub between : IsBetween g new None after

-- a thread that ends is an `end` entry
pub record EndsHere (g : Setup) (state : State) (segment : Segment) (begun : ℕ) (after : World) (world : source.World) : Type 0 where
  pub new : State
  pub allowed : IsEnd g state segment.thread (after.cost - begun) (free_count after.areas.pool) new
  pub between : IsBetween g new None after

-- a due event is an `event` or a `drop` entry, if it is the next line of the trace
pub record ComesHere (g : Setup) (state : State) (event : Event) (machine : World) : Type 0 where
  pub drops : Bool
  pub new : State
  pub allowed : machine.threads ≢ [] → IsNext state.trace (Some event) → is_due (Some event) machine.clock ≡ true → IsComing g state machine.clock (item_of event.kind) drops new
  pub between : IsBetween g new None (delivered (setting_of g) machine (delivery_of event.kind))

-- the pick of the lawful choice is a `run` entry, if the next line of the trace isn't due
pub record RunsHere (g : Setup) (state : State) (next : Option Event) (machine : World) (chosen : Waiter) (picked : World) : Type 0 where
  pub new : State
  pub segment : Segment
  pub allowed : machine.threads ≢ [] → IsNext state.trace next → is_due next machine.clock ≡ false → IsRun g state machine.clock chosen.thread chosen.node new
  pub within : IsWithin g new segment machine.cost picked new.waiting
