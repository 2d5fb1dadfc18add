-- The entries of a segment. Each is one step of the machine, after steps for which the log has no entry. The outputs
-- and the end of the whole segment are those of its thread's run in the source world.
use Rattle.std.specs.Prelude.{◌≡◌, ℕ, zero, suc, ◌+◌, ℤ, List, [], ◌∷◌, ◌++◌, length, Option, Some, None, slice_get}
use Rattle.blocking_graph.specs.Nodes.{keys_with, node_number}
use Rattle.cap_word.specs.Word.{signed}
use Rattle.cap_word.specs.declared.calls.Block.{Block}
use Rattle.cap_word.specs.declared.traps.TrapKind.{TrapKind}
use Rattle.c_mean.specs.Frames.{Waiting, key_of}
use Rattle.c_mean.specs.World as source
use Rattle.choice_rules.specs.Seen.{Waiter, uses_in, changes, newcomers, end_node, with_segment}
use Rattle.choice_rules.specs.SourceRuns as rules
use Rattle.machine_world.specs.Runs.{and_then}
use Rattle.machine_world.specs.Threads.{World, Setting, Move, Goes, Puts, Spawns, Blocks, Ends, Stops, Wrong, step}
use Rattle.lawful_log.specs.Setup.{Setup, setting_of}
use Rattle.lawful_log.specs.State.{Segment, State, held_chunks}
use Rattle.chunk_pool.specs.Pool.{free_count}

-- ---- the machine's steps

-- the world after a step without an entry
abbrev pub quiet_world : Move → Option World
quiet_world (Goes after) = Some after
quiet_world (Spawns number after) = Some after
quiet_world (Puts value after) = None
quiet_world (Blocks after) = None
quiet_world (Ends after) = None
quiet_world (Stops stop) = None
quiet_world Wrong = None

-- the world after n such steps
abbrev pub after_quiet : Setting → ℕ → World → Option World
after_quiet s zero w = Some w
after_quiet s (suc n) w = and_then (quiet_world (step s w)) (after_quiet s n)

-- a segment is in progress, and this number of steps without an entry leads to a world
pub record IsOnTheWay (g : Setup) (state : State) (segment : Segment) (steps : ℕ) (here : World) : Type 0 where
  pub under_way : state.segment ≡ Some segment
  pub quiet : after_quiet (setting_of g) steps state.machine ≡ Some here

-- ---- the source's run

-- the source's run of the segment's thread ends in this world, with this trap if it is one, and puts what the segment
-- has put
abbrev pub HasRun : Setup → State → Segment → Option TrapKind → source.World → Type 0
HasRun g state segment trap world = rules.HasRun g.program g.policy.caps state.source segment.thread segment.puts trap world

-- the source's run, cut after as many outputs as the segment has, has put what the segment has put
abbrev pub IsCut : Setup → State → Segment → Type 0
IsCut g state segment = rules.IsCut g.program g.policy.caps state.source segment.thread segment.puts

-- ---- `out`

-- `out`: after some steps without an entry, the running thread's next step puts this value
pub record IsOut (g : Setup) (before : State) (thread : ℕ) (value : ℤ) (after : State) : Type 0 where
  pub segment : Segment
  pub steps : ℕ
  pub here : World
  pub way : IsOnTheWay g before segment steps here
  pub word : ℕ
  pub machine : World
  pub puts : step (setting_of g) here ≡ Puts word machine
  pub thread_is : thread ≡ segment.thread
  pub value_is : value ≡ signed word
  pub after_is : after ≡ record before {
    machine = machine;
    segment = Some (record segment { cost = segment.cost + steps + 1; puts = segment.puts ++ word ∷ [] });
  }

-- ---- `block` and `end`

-- the state after a segment that has ended at a node with these worlds, at this cost; the threads that join a node
-- then, and the keys so far
abbrev pub rested : State → Segment → ℕ → ℕ → World → source.World → List Waiter → List (List ℕ) → State
rested state segment node cost machine world joining keys = record {
  machine = machine;
  source = world;
  trace = state.trace;
  waiting = state.waiting ++ newcomers state.source (length world.threads) ++ joining;
  segment = None;
  past = with_segment state.past keys
      (record { from = segment.node; to = node; cost = cost; change = changes segment.uses (uses_in (held_chunks machine) world.exchange) }) (uses_in (held_chunks machine) world.exchange);
}

-- `block`: the running thread blocks at a call of this key, in the machine and in the source
pub record IsBlock (g : Setup) (before : State) (thread node : ℕ) (key : List ℕ) (cost free : ℕ) (after : State) : Type 0 where
  pub segment : Segment
  pub steps : ℕ
  pub here : World
  pub way : IsOnTheWay g before segment steps here
  pub machine : World
  pub blocks : step (setting_of g) here ≡ Blocks machine
  pub thread_is : thread ≡ segment.thread
  pub cost_is : cost ≡ segment.cost + steps + 1
  pub free_is : free ≡ free_count machine.areas.pool
  pub world : source.World
  pub run : HasRun g before segment None world
  pub block : Block
  pub waiting : Waiting
  pub rests : slice_get world.threads thread ≡ Some (source.Blocked block waiting)
  pub key_is : key ≡ key_of waiting
  pub node_is : node ≡ node_number before.past.keys key
  pub after_is : after ≡ rested before segment node cost machine world
      (record { thread = thread; node = node; since = machine.clock } ∷ []) (keys_with before.past.keys key)

-- `end`: the running thread ends, in the machine and in the source
pub record IsEnd (g : Setup) (before : State) (thread cost free : ℕ) (after : State) : Type 0 where
  pub segment : Segment
  pub steps : ℕ
  pub here : World
  pub way : IsOnTheWay g before segment steps here
  pub machine : World
  pub ends : step (setting_of g) here ≡ Ends machine
  pub thread_is : thread ≡ segment.thread
  pub cost_is : cost ≡ segment.cost + steps + 1
  pub free_is : free ≡ free_count machine.areas.pool
  pub world : source.World
  pub run : HasRun g before segment None world
  pub rests : slice_get world.threads thread ≡ Some source.Ended
  pub after_is : after ≡ rested before segment end_node cost machine world [] before.past.keys
