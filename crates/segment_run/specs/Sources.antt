-- What the answer of a segment says of the source thread for which the context stood.
use Rattle.std.specs.Prelude.{◌≡◌, ℕ, List, Option, Some, None}
use Rattle.cap_word.specs.Calls.{Call, Blocking, Immediate}
use Rattle.cap_word.specs.Runs.{Asks, Stops, moves}
use Rattle.cap_word.specs.declared.traps.TrapKind.{TrapKind}
use Rattle.c_tree.specs.Trees.{ProgramTree}
use Rattle.c_mean.specs.Frames.{Running, Waiting}
use Rattle.c_mean.specs.Steps.{source_machine}
use Rattle.machine_world.specs.Globals.{AreGlobals}
use Rattle.machine_world.specs.Local.{Local}
use Rattle.machine_world.specs.Places.{Checked}
use Rattle.segment_run.specs.Passing.{WaitsBefore}
use Rattle.segment_run.specs.declared.segments.Segment.{Segment}
use Rattle.segment_run.specs.declared.segments.Segment.TheVariants as answer

-- the source thread's next call is this one, and the machine thread waits before its ECALL for it
pub record CallsNext (c : Checked) (program : ProgramTree) (running : Running) (call : Call) (after : Local) : Type 0 where
  pub steps : ℕ
  pub globals : List (List ℕ)
  pub waiting : Waiting
  pub asks : moves (source_machine program) steps running ≡ Asks (record { call = call; globals = globals }) waiting
  pub waits : WaitsBefore c program after waiting globals

-- the source thread stops next, with this trap or at its end
pub record StopsNext (c : Checked) (program : ProgramTree) (running : Running) (trap : Option TrapKind) (after : Local) : Type 0 where
  pub steps : ℕ
  pub globals : List (List ℕ)
  pub stops : moves (source_machine program) steps running ≡ Stops (record { trap = trap; globals = globals })
  pub globals_are : AreGlobals c.flat globals after.areas.globals

-- an answer is the source thread's next call or stop; if fuel or chunks ran out, nothing is said
abbrev pub IsSourceAnswer : Checked → ProgramTree → Running → Segment → Local → Type 0
IsSourceAnswer c program running (answer.Blocks block) after = CallsNext c program running (Blocking block) after
IsSourceAnswer c program running (answer.Asks ask) after = CallsNext c program running (Immediate ask) after
IsSourceAnswer c program running answer.Ends after = StopsNext c program running None after
IsSourceAnswer c program running (answer.Traps kind) after = StopsNext c program running (Some kind) after
IsSourceAnswer c program running answer.NoChunk after = Unit {0}
IsSourceAnswer c program running answer.OutOfFuel after = Unit {0}
