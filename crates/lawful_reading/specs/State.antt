-- The state of a reading after some lines of a log.
use Rattle.std.specs.Prelude.{ℕ, ◌+◌, ◌≤◌, List, [], ◌∷◌, Option, None, is_some}
use Rattle.c_mean.specs.World as source
use Rattle.choice_rules.specs.Seen.{Waiter, Past, Seen, uses_in, no_past}
use Rattle.choice_rules.specs.Trace.{Trace}
use Rattle.schedule_log.specs.declared.entries.Entry.{Entry}
use Rattle.lawful_reading.specs.Given.{Given, chunks_of}
use Rattle.lawful_reading.specs.Happenings.{live_in}

-- a segment in progress: the node from which its thread was taken, the uses at its choice, and the state of the
-- source's run of the thread after the lines so far: after the last output, or where it was resumed
pub record Segment : Type 0 where
  pub node : ℕ
  pub uses : List ℕ
  pub here : source.Segment

-- the end of a log: it hasn't begun, or these edge lines are yet to come, or the stop has come
pub data End : Type 0 where
  NotYet : End
  Edges : (left : List Entry) → End
  Stopped : End

-- the clock; the sum of the printed costs; the number of held chunks, by the last printed number of free ones; the
-- source world when last no segment was in progress; the rest of the trace; the waiting threads, in the order in which
-- they joined their nodes; the segment in progress, if there is one; the past; the number of steps of the source that
-- the lines so far needed; and the end
pub record State : Type 0 where
  pub clock : ℕ
  pub cost : ℕ
  pub held : ℕ
  pub source : source.World
  pub trace : Trace
  pub waiting : List Waiter
  pub segment : Option Segment
  pub past : Past
  pub steps : ℕ
  pub end : End

-- what is visible at a choice point
abbrev pub seen_of : State → Seen
seen_of state = record {
  clock = state.clock;
  live = live_in state.source;
  held = state.held;
  source = state.source;
  trace = state.trace;
  waiting = state.waiting;
  under_way = is_some state.segment;
  past = state.past;
}

-- the state before the first line: thread 0 waits at the start, and one chunk is held
abbrev pub start_of : Given → List ℕ → State
start_of g trace = record {
  clock = 0;
  cost = 0;
  held = 1;
  source = source.start_world g.program;
  trace = record { bytes = trace; lines = 0; last = 0 };
  waiting = record { thread = 0; node = 0; since = 0 } ∷ [];
  segment = None;
  past = no_past (uses_in 1 (source.start_world g.program).exchange);
  steps = 0;
  end = NotYet;
}

-- possible values of a printed cost and a printed number of free chunks: the total cost is at most the fuel, and at
-- most all chunks are free
pub record IsPossible (g : Given) (state : State) (cost free : ℕ) : Type 0 where
  pub fuel : state.cost + cost ≤ g.policy.fuel
  pub chunks : free ≤ chunks_of g
