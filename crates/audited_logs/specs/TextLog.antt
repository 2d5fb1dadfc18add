-- What the lines of a log say of a text whose expressions may contain calls: of the text by itself, without rewriting
-- (`deep_mean`).
use Rattle.std.specs.Prelude.{◌≡◌, ◌≢◌, ◌<◌, ℕ, ℤ, List, [], ◌∷◌, ◌++◌, length, Some, slice_get}
use Rattle.cap_word.specs.Word.{signed}
use Rattle.cap_word.specs.declared.calls.Block.{Block}
use Rattle.cap_word.specs.declared.stops.Stop.{Stop}
use Rattle.cap_word.specs.declared.traps.TrapKind.{TrapKind}
use Rattle.c_mean.specs.World as source
use Rattle.deep_mean.specs.DeepFrames as frames
use Rattle.deep_mean.specs.DeepTrees.{DeepProgram}
use Rattle.deep_mean.specs.DeepWorld as deep
use Rattle.deep_mean.specs.DeepWorld.{DeepWorld, DeepRest, DeepRested, DeepSegment}
use Rattle.lawful_log.specs.Good.{delivered}
use Rattle.schedule_log.specs.declared.entries.Entry.{Entry}
use Rattle.schedule_log.specs.declared.entries.StopLine.{StopLine}

-- what threads have put, as `out` lines print it: threads with signed numbers
abbrev pub lines_of : List (ℕ × ℕ) → List (ℕ × ℤ)
lines_of [] = []
lines_of (output ∷ outputs) = (output.0, signed output.1) ∷ lines_of outputs

-- ---- the state of the text

-- this schedule leads from the text's start to a world in which exactly this has been put, and which has this property
abbrev pub ComesTo : DeepProgram → List ℕ → List source.Entry → List (ℕ × ℤ) → (DeepWorld → Type 0) → Type 0
ComesTo text caps schedule put asked =
    (world : DeepWorld) × deep.IsAfter text caps (deep.start_world text) schedule world × (put ≡ lines_of world.outputs) × asked world

-- a thread is blocked at a call of this key
abbrev pub IsBlockedAt : ℕ → List ℕ → DeepWorld → Type 0
IsBlockedAt thread key world =
    (block : Block) × (waiting : frames.DeepWaiting) × (slice_get world.threads thread ≡ Some (deep.Blocked block waiting)) × (key ≡ frames.key_of waiting)

-- a thread has ended
abbrev pub HasEnded : ℕ → DeepWorld → Type 0
HasEnded thread world = slice_get world.threads thread ≡ Some deep.Ended

-- every thread has ended
abbrev pub HaveAllEnded : DeepWorld → Type 0
HaveAllEnded world = (thread : ℕ) → thread < length world.threads → HasEnded thread world

-- some thread hasn't ended
abbrev pub IsSomeLive : DeepWorld → Type 0
IsSomeLive world = (thread : ℕ) × (rest : DeepRest) × (slice_get world.threads thread ≡ Some rest) × (rest ≢ deep.Ended)

-- after this schedule the thread runs to this trap, and then exactly this has been put
abbrev pub ComesToTrap : DeepProgram → List ℕ → List source.Entry → List (ℕ × ℤ) → ℕ → TrapKind → Type 0
ComesToTrap text caps schedule put thread kind =
    (world : DeepWorld) × (end : DeepRested) × deep.IsAfter text caps (deep.start_world text) schedule world × deep.RunsTo text caps world thread end
    × (end.trap ≡ Some kind) × (put ≡ lines_of end.world.outputs)

-- after this schedule the thread runs until exactly this has been put
abbrev pub ComesToCut : DeepProgram → List ℕ → List source.Entry → List (ℕ × ℤ) → ℕ → Type 0
ComesToCut text caps schedule put thread =
    (world : DeepWorld) × (count : ℕ) × (there : DeepSegment) × deep.IsAfter text caps (deep.start_world text) schedule world
    × deep.IsCutAt text caps world thread count there × (put ≡ lines_of there.world.outputs)

-- ---- the lines

-- a stop: at `done` each of the text's threads has ended, and at `idle` some thread hasn't; a refused line of the trace
-- says nothing of the threads; a trap is the text's; at any other stop the text is cut after what was put
abbrev pub StopsSo : DeepProgram → List ℕ → List source.Entry → List (ℕ × ℤ) → StopLine → Type 0
StopsSo text caps schedule put StopLine.Done = ComesTo text caps schedule put HaveAllEnded
StopsSo text caps schedule put StopLine.Idle = ComesTo text caps schedule put IsSomeLive
StopsSo text caps schedule put (StopLine.Trace line) = ComesTo text caps schedule put (λ world. Unit {0})
StopsSo text caps schedule put (StopLine.Cut thread (Stop.Trap kind) cost free) = ComesToTrap text caps schedule put thread kind
StopsSo text caps schedule put (StopLine.Cut thread Stop.NoChunk cost free) = ComesToCut text caps schedule put thread
StopsSo text caps schedule put (StopLine.Cut thread Stop.Fuel cost free) = ComesToCut text caps schedule put thread
StopsSo text caps schedule put (StopLine.Cut thread Stop.Threads cost free) = ComesToCut text caps schedule put thread

-- the rest of the lines, after those that gave this schedule and printed this. An `event` delivers its item; `drop` and
-- `run` leave the source unchanged; at a `block` and an `end` the thread has run and rests as printed.
abbrev pub AreTextLines : DeepProgram → List ℕ → List source.Entry → List (ℕ × ℤ) → List Entry → Type 0
AreTextLines text caps schedule put [] = Unit {0}
AreTextLines text caps schedule put (Entry.Event clock item ∷ entries) = AreTextLines text caps (schedule ++ source.Deliver (delivered item) ∷ []) put entries
AreTextLines text caps schedule put (Entry.Dropped clock item ∷ entries) = AreTextLines text caps schedule put entries
AreTextLines text caps schedule put (Entry.Run clock thread node ∷ entries) = AreTextLines text caps schedule put entries
AreTextLines text caps schedule put (Entry.Out thread value ∷ entries) = AreTextLines text caps schedule (put ++ (thread, value) ∷ []) entries
AreTextLines text caps schedule put (Entry.Block thread node key cost free ∷ entries) =
    ComesTo text caps (schedule ++ source.Run thread ∷ []) put (IsBlockedAt thread key)
    × AreTextLines text caps (schedule ++ source.Run thread ∷ []) put entries
AreTextLines text caps schedule put (Entry.End thread cost free ∷ entries) =
    ComesTo text caps (schedule ++ source.Run thread ∷ []) put (HasEnded thread)
    × AreTextLines text caps (schedule ++ source.Run thread ∷ []) put entries
AreTextLines text caps schedule put (Entry.Edge from to count cost changes ∷ entries) = AreTextLines text caps schedule put entries
AreTextLines text caps schedule put (Entry.Stop stop ∷ entries) = StopsSo text caps schedule put stop

-- the whole log: what the text does under the schedule that the log prints
abbrev pub IsTextLog : DeepProgram → List ℕ → List Entry → Type 0
IsTextLog text caps entries = AreTextLines text caps [] [] entries
