-- The state of a log after some entries.
use Rattle.std.specs.Prelude.{ℕ, ◌-◌, List, [], ◌∷◌, length, Option, None, is_some}
use Rattle.c_mean.specs.World as source
use Rattle.choice_rules.specs.Seen.{Waiter, Past, Seen, uses_in, no_past}
use Rattle.choice_rules.specs.Trace.{Trace}
use Rattle.machine_world.specs.Threads.{World}
use Rattle.lawful_log.specs.Setup.{Setup}
use Rattle.chunk_pool.specs.Pool.{free_count}

-- a segment in progress: its thread, the node from which the thread was taken, the uses at its choice, the number of
-- its retired instructions, and the values that it has put
pub record Segment : Type 0 where
  pub thread : ℕ
  pub node : ℕ
  pub uses : List ℕ
  pub cost : ℕ
  pub puts : List ℕ

-- the machine world now; the source world when last no segment was in progress; the rest of the trace; the waiting
-- threads, in the order in which they joined their nodes; the segment in progress, if there is one; and the past
pub record State : Type 0 where
  pub machine : World
  pub source : source.World
  pub trace : Trace
  pub waiting : List Waiter
  pub segment : Option Segment
  pub past : Past

-- the number of held chunks
abbrev pub held_chunks : World → ℕ
held_chunks machine = machine.areas.pool.count - free_count machine.areas.pool

-- what is visible of a state at a choice point
abbrev pub seen_of : State → Seen
seen_of state = record {
  clock = state.machine.clock;
  live = length state.machine.threads;
  held = held_chunks state.machine;
  source = state.source;
  trace = state.trace;
  waiting = state.waiting;
  under_way = is_some state.segment;
  past = state.past;
}

-- before the first entry: thread 0 waits at the start, and nothing has happened
abbrev pub start_of : Setup → List ℕ → World → State
start_of g trace machine = record {
  machine = machine;
  source = source.start_world g.program;
  trace = record { bytes = trace; lines = 0; last = 0 };
  waiting = record { thread = 0; node = 0; since = 0 } ∷ [];
  segment = None;
  past = no_past (uses_in (held_chunks machine) (source.start_world g.program).exchange);
}
