-- The deep world: that of the source (`c_mean`), over deep threads.
use Rattle.std.specs.Prelude.{◌≡◌, ℕ, ◌+◌, ◌<◌, List, [], ◌∷◌, ◌++◌, length, Option, Some, None, option_map, slice_get, slice_set}
use Rattle.cap_word.specs.Calls.{Call, Blocking, Immediate}
use Rattle.cap_word.specs.Runs.{Move, Goes, Asks, Stops, Machine, moves}
use Rattle.cap_word.specs.declared.calls.Block.{Block}
use Rattle.cap_word.specs.declared.traps.TrapKind.{TrapKind}
use Rattle.c_mean.specs.ModelledCalls.{Exchange, BlockingRow, blocking_row, ImmediateRow, immediate_row, with_delivery}
use Rattle.c_mean.specs.World.{empty_exchange, with_printed, Entry, Deliver, Run}
use Rattle.deep_mean.specs.DeepTrees.{DeepProgram}
use Rattle.deep_mean.specs.DeepFrames.{DeepRunning, DeepWaiting}
use Rattle.deep_mean.specs.DeepSteps.{DeepMove, deep_step, deep_resume, started, start_globals}

-- the state of a thread at rest
pub data DeepRest : Type 0 where
  Fresh : (function : ℕ) (arguments : List ℕ) → DeepRest
  Blocked : (block : Block) (waiting : DeepWaiting) → DeepRest
  Ended : DeepRest

pub record DeepWorld : Type 0 where
  pub threads : List DeepRest
  pub globals : List (List ℕ)
  pub exchange : Exchange
  pub outputs : List (ℕ × ℕ)

abbrev pub start_world : DeepProgram → DeepWorld
start_world program = record { threads = Fresh program.main [] ∷ []; globals = start_globals program; exchange = empty_exchange; outputs = [] }

-- ---- one thread runs

pub record DeepSegment : Type 0 where
  pub number : ℕ
  pub running : DeepRunning
  pub world : DeepWorld

pub record DeepRested : Type 0 where
  pub trap : Option TrapKind
  pub world : DeepWorld

abbrev pub SegmentMove : Type 0
SegmentMove = Move DeepSegment ⊥ ⊥ DeepRested

abbrev pub traps : DeepSegment → List (List ℕ) → TrapKind → SegmentMove
traps segment globals trap = Stops (record { trap = Some trap; world = record segment.world { globals = globals } })

abbrev pub rests : DeepSegment → List (List ℕ) → DeepRest → SegmentMove
rests segment globals rest = Stops (record { trap = None; world = record segment.world { threads = slice_set segment.world.threads segment.number rest; globals = globals } })

abbrev pub unless_trap : DeepSegment → List (List ℕ) → Option TrapKind → SegmentMove → SegmentMove
unless_trap segment globals (Some trap) other = traps segment globals trap
unless_trap segment globals None other = other

abbrev pub with_started : List DeepRest → Option (ℕ × ℕ) → List DeepRest
with_started threads None = threads
with_started threads (Some start) = threads ++ Fresh start.0 (start.1 ∷ []) ∷ []

abbrev pub after_ask : DeepWorld → ℕ → ImmediateRow → DeepWorld
after_ask world number row = record {
  threads = with_started world.threads row.starts;
  globals = world.globals;
  exchange = row.after;
  outputs = with_printed number world.outputs row.prints;
}

abbrev pub answered : DeepSegment → List (List ℕ) → DeepWaiting → ImmediateRow → SegmentMove
answered segment globals waiting row =
    unless_trap segment globals row.trap (Goes (record {
      number = segment.number;
      running = deep_resume waiting (record { result = row.result; globals = globals });
      world = after_ask segment.world segment.number row;
    }))

abbrev pub calls : List ℕ → DeepSegment → List (List ℕ) → DeepWaiting → Call → SegmentMove
calls caps segment globals waiting (Blocking block) =
    unless_trap segment globals (blocking_row caps segment.world.exchange block).trap (rests segment globals (Blocked block waiting))
calls caps segment globals waiting (Immediate ask) =
    answered segment globals waiting (immediate_row caps segment.world.exchange segment.number (length segment.world.threads) ask)

abbrev pub segment_move : List ℕ → DeepSegment → DeepMove → SegmentMove
segment_move caps segment (Goes running) = Goes (record segment { running = running })
segment_move caps segment (Asks question waiting) = calls caps segment question.globals waiting question.call
segment_move caps segment (Stops finish) = unless_trap segment finish.globals finish.trap (rests segment finish.globals Ended)

abbrev pub segment_step : DeepProgram → List ℕ → DeepSegment → SegmentMove
segment_step program caps segment = segment_move caps segment (deep_step program segment.running)

abbrev pub segment_machine : DeepProgram → List ℕ → Machine DeepSegment ⊥ ⊥ ⊥ DeepRested
segment_machine program caps = record { step = segment_step program caps; resume = λ waiting answer. absurd waiting }

-- ---- runs of a thread

-- the effect of resuming, which isn't a step; none if there is no such thread or it has ended
abbrev pub begun_at : DeepProgram → List ℕ → DeepWorld → ℕ → Option DeepRest → Option DeepSegment
begun_at program caps world number None = None
begun_at program caps world number (Some Ended) = None
begun_at program caps world number (Some (Fresh function arguments)) =
    Some (record { number = number; running = started program function arguments world.globals; world = world })
begun_at program caps world number (Some (Blocked block waiting)) =
    let row : BlockingRow = blocking_row caps world.exchange block in
    Some (record {
      number = number;
      running = deep_resume waiting (record { result = row.result; globals = world.globals });
      world = record world { exchange = row.after };
    })

abbrev pub begun : DeepProgram → List ℕ → DeepWorld → ℕ → Option DeepSegment
begun program caps world number = begun_at program caps world number (slice_get world.threads number)

abbrev pub thread_moves : DeepProgram → List ℕ → DeepWorld → ℕ → ℕ → Option SegmentMove
thread_moves program caps world number n = option_map (moves (segment_machine program caps) n) (begun program caps world number)

abbrev pub RunsTo : DeepProgram → List ℕ → DeepWorld → ℕ → DeepRested → Type 0
RunsTo program caps world number rested = (n : ℕ) × (thread_moves program caps world number n ≡ Some (Stops rested))

-- the run of a thread, cut at the first moment at which it has made this number of outputs, is in
-- this segment
abbrev pub IsCutAt : DeepProgram → List ℕ → DeepWorld → ℕ → ℕ → DeepSegment → Type 0
IsCutAt program caps world number puts segment =
    (m : ℕ) × (thread_moves program caps world number m ≡ Some (Goes segment))
    × (length segment.world.outputs ≡ length world.outputs + puts)
    × ((n : ℕ) → n < m → (earlier : DeepSegment) → thread_moves program caps world number n ≡ Some (Goes earlier) → length earlier.world.outputs < length world.outputs + puts)

-- ---- schedules

abbrev pub IsAfterEntry : DeepProgram → List ℕ → DeepWorld → Entry → DeepWorld → Type 0
IsAfterEntry program caps world (Deliver delivery) after = after ≡ record world { exchange = with_delivery world.exchange delivery }
IsAfterEntry program caps world (Run number) after = RunsTo program caps world number (record { trap = None; world = after })

abbrev pub IsAfter : DeepProgram → List ℕ → DeepWorld → List Entry → DeepWorld → Type 0
IsAfter program caps world [] after = after ≡ world
IsAfter program caps world (entry ∷ entries) after = (next : DeepWorld) × IsAfterEntry program caps world entry next × IsAfter program caps next entries after
