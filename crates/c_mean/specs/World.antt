-- The source world: threads by number, which run one at a time, in an order that is given from outside, each up to its
-- next blocking call, its end or its trap (the cooperative threads of Capriccio, SOSP 2003).
use Rattle.std.specs.Prelude.{◌≡◌, ℕ, ◌+◌, ◌<◌, List, [], ◌∷◌, ◌++◌, length, replicate, Option, Some, None, option_map, slice_get, slice_set}
use Rattle.cap_word.specs.Calls.{Call, Blocking, Immediate}
use Rattle.cap_word.specs.Runs.{Move, Goes, Asks, Stops, Machine, moves}
use Rattle.cap_word.specs.declared.calls.Block.{Block}
use Rattle.cap_word.specs.declared.traps.TrapKind.{TrapKind}
use Rattle.c_tree.specs.Trees.{ProgramTree}
use Rattle.c_mean.specs.Frames.{Running, Waiting}
use Rattle.c_mean.specs.Steps.{SourceMove, source_step, source_resume, started, start_globals}
use Rattle.c_mean.specs.ModelledCalls.{Exchange, BlockingRow, blocking_row, ImmediateRow, immediate_row, Delivery, with_delivery}

-- the state of a thread at rest
pub data Rest : Type 0 where
  -- it hasn't run yet: a function and its arguments
  Fresh : (function : ℕ) (arguments : List ℕ) → Rest
  -- it is blocked at a call
  Blocked : (block : Block) (waiting : Waiting) → Rest
  -- it has ended
  Ended : Rest

-- a world: the threads by number, the globals, what threads share besides these, and the outputs so far, each with its
-- thread
pub record World : Type 0 where
  pub threads : List Rest
  pub globals : List (List ℕ)
  pub exchange : Exchange
  pub outputs : List (ℕ × ℕ)

-- nothing has arrived, and no resource is in use
abbrev pub empty_exchange : Exchange
empty_exchange = record { arrivals = []; channels = replicate 64 []; uses = replicate 8 0 }

-- the world at the start of a run: `main`, which is thread 0, hasn't run
abbrev pub start_world : ProgramTree → World
start_world program = record { threads = Fresh program.main [] ∷ []; globals = start_globals program; exchange = empty_exchange; outputs = [] }

-- ---- one thread runs

-- a thread that runs in a world. The globals are those of the thread until it rests.
pub record Segment : Type 0 where
  pub number : ℕ
  pub running : Running
  pub world : World

-- the world when a run of a thread has come to rest, and the trap if it is one
pub record Rested : Type 0 where
  pub trap : Option TrapKind
  pub world : World

-- the outcome of a step of a segment; it asks nothing
abbrev pub SegmentMove : Type 0
SegmentMove = Move Segment ⊥ ⊥ Rested

-- the run traps
abbrev pub traps : Segment → List (List ℕ) → TrapKind → SegmentMove
traps segment globals trap = Stops (record { trap = Some trap; world = record segment.world { globals = globals } })

-- the thread rests
abbrev pub rests : Segment → List (List ℕ) → Rest → SegmentMove
rests segment globals rest = Stops (record { trap = None; world = record segment.world { threads = slice_set segment.world.threads segment.number rest; globals = globals } })

-- the trap, if there is one, and otherwise the other outcome
abbrev pub unless_trap : Segment → List (List ℕ) → Option TrapKind → SegmentMove → SegmentMove
unless_trap segment globals (Some trap) other = traps segment globals trap
unless_trap segment globals None other = other

-- a number that was output is appended to the outputs
abbrev pub with_printed : ℕ → List (ℕ × ℕ) → Option ℕ → List (ℕ × ℕ)
with_printed number outputs None = outputs
with_printed number outputs (Some value) = outputs ++ (number, value) ∷ []

-- a new thread gets the next number
abbrev pub with_started : List Rest → Option (ℕ × ℕ) → List Rest
with_started threads None = threads
with_started threads (Some start) = threads ++ Fresh start.0 (start.1 ∷ []) ∷ []

-- the world after a call that is answered at once
abbrev pub after_ask : World → ℕ → ImmediateRow → World
after_ask world number row = record {
  threads = with_started world.threads row.starts;
  globals = world.globals;
  exchange = row.after;
  outputs = with_printed number world.outputs row.prints;
}

abbrev pub answered : Segment → List (List ℕ) → Waiting → ImmediateRow → SegmentMove
answered segment globals waiting row =
    unless_trap segment globals row.trap (Goes (record {
      number = segment.number;
      running = source_resume waiting (record { result = row.result; globals = globals });
      world = after_ask segment.world segment.number row;
    }))

-- a modelled call of the running thread
abbrev pub calls : List ℕ → Segment → List (List ℕ) → Waiting → Call → SegmentMove
calls caps segment globals waiting (Blocking block) =
    unless_trap segment globals (blocking_row caps segment.world.exchange block).trap (rests segment globals (Blocked block waiting))
calls caps segment globals waiting (Immediate ask) =
    answered segment globals waiting (immediate_row caps segment.world.exchange segment.number (length segment.world.threads) ask)

abbrev pub segment_move : List ℕ → Segment → SourceMove → SegmentMove
segment_move caps segment (Goes running) = Goes (record segment { running = running })
segment_move caps segment (Asks question waiting) = calls caps segment question.globals waiting question.call
segment_move caps segment (Stops finish) = unless_trap segment finish.globals finish.trap (rests segment finish.globals Ended)

-- one source step of the running thread, in its world
abbrev pub segment_step : ProgramTree → List ℕ → Segment → SegmentMove
segment_step program caps segment = segment_move caps segment (source_step program segment.running)

abbrev pub segment_machine : ProgramTree → List ℕ → Machine Segment ⊥ ⊥ ⊥ Rested
segment_machine program caps = record { step = segment_step program caps; resume = λ waiting answer. absurd waiting }

-- ---- runs of a thread

-- The effect of resuming, which isn't a step; none if there is no such thread or it has ended. A blocked thread is run
-- only if it is ready (`is_ready`, which needs a clock): otherwise the answer to its call has no meaning.
abbrev pub begun_at : ProgramTree → List ℕ → World → ℕ → Option Rest → Option Segment
begun_at program caps world number None = None
begun_at program caps world number (Some Ended) = None
begun_at program caps world number (Some (Fresh function arguments)) =
    Some (record { number = number; running = started program function arguments world.globals; world = world })
begun_at program caps world number (Some (Blocked block waiting)) =
    let row : BlockingRow = blocking_row caps world.exchange block in
    Some (record {
      number = number;
      running = source_resume waiting (record { result = row.result; globals = world.globals });
      world = record world { exchange = row.after };
    })

abbrev pub begun : ProgramTree → List ℕ → World → ℕ → Option Segment
begun program caps world number = begun_at program caps world number (slice_get world.threads number)

-- the outcome of at most n source steps of a thread, from where it rests
abbrev pub thread_moves : ProgramTree → List ℕ → World → ℕ → ℕ → Option SegmentMove
thread_moves program caps world number n = option_map (moves (segment_machine program caps) n) (begun program caps world number)

-- the run of a thread ends in this, at rest or in a trap
abbrev pub RunsTo : ProgramTree → List ℕ → World → ℕ → Rested → Type 0
RunsTo program caps world number rested = (n : ℕ) × (thread_moves program caps world number n ≡ Some (Stops rested))

-- the run of a thread, cut at the first moment at which it has made this number of outputs, is in this segment
abbrev pub IsCutAt : ProgramTree → List ℕ → World → ℕ → ℕ → Segment → Type 0
IsCutAt program caps world number puts segment =
    (m : ℕ) × (thread_moves program caps world number m ≡ Some (Goes segment))
    × (length segment.world.outputs ≡ length world.outputs + puts)
    × ((n : ℕ) → n < m → (earlier : Segment) → thread_moves program caps world number n ≡ Some (Goes earlier) → length earlier.world.outputs < length world.outputs + puts)

-- ---- schedules

-- an entry of a schedule: a delivery from outside, or a run of a thread
pub data Entry : Type 0 where
  Deliver : (delivery : Delivery) → Entry
  Run : (number : ℕ) → Entry

abbrev pub IsAfterEntry : ProgramTree → List ℕ → World → Entry → World → Type 0
IsAfterEntry program caps world (Deliver delivery) after = after ≡ record world { exchange = with_delivery world.exchange delivery }
IsAfterEntry program caps world (Run number) after = RunsTo program caps world number (record { trap = None; world = after })

-- the world after the entries of a schedule, one after another
abbrev pub IsAfter : ProgramTree → List ℕ → World → List Entry → World → Type 0
IsAfter program caps world [] after = after ≡ world
IsAfter program caps world (entry ∷ entries) after = (next : World) × IsAfterEntry program caps world entry next × IsAfter program caps next entries after
