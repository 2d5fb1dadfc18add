-- What a segment of a machine world has done so far, compared with the source's run of the same thread: the values that
-- it has put, and at its end or trap the result of the source's run.
use Rattle.std.specs.Prelude.{◌≡◌, ℕ, List, [], ◌∷◌, ◌++◌, length, map, Option, Some, None}
use Rattle.cap_word.specs.Runs.{Goes}
use Rattle.cap_word.specs.declared.stops.Stop.{Stop}
use Rattle.cap_word.specs.declared.traps.TrapKind.{TrapKind}
use Rattle.c_tree.specs.Trees.{ProgramTree}
use Rattle.c_mean.specs.World as source
use Rattle.c_mean.specs.World.{Segment, IsCutAt, RunsTo, thread_moves}
use Rattle.machine_world.specs.Places.{Checked}
use Rattle.machine_world.specs.Threads as machine
use Rattle.machine_world.specs.Threads.{World, Setting, Move}
use Rattle.machine_meaning.specs.UnderWay.{IsUnderWay, StandsSettled}

-- the outputs of a source world, followed by what a thread has put since
abbrev pub with_puts : source.World → ℕ → List ℕ → List (ℕ × ℕ)
with_puts start number puts = start.outputs ++ map (λ v. (number, v)) puts

-- a segment of that thread is in progress that began in this source world, and has put these values: the source's run
-- of it has put exactly these, also when it is cut at their number
pub record IsReached (c : Checked) (program : ProgramTree) (s : Setting) (start : source.World) (number : ℕ) (puts : List ℕ) (w : World) : Type 0 where
  pub segment : Segment
  pub of_thread : segment.number ≡ number
  pub steps : ℕ
  pub comes : thread_moves program s.caps start number steps ≡ Some (Goes segment)
  pub outputs : segment.world.outputs ≡ with_puts start number puts
  pub cut : Segment
  pub is_cut : IsCutAt program s.caps start number (length puts) cut
  pub cut_outputs : cut.world.outputs ≡ with_puts start number puts
  pub under_way : IsUnderWay c program s w segment

-- the source's run of the thread has reached its blocking call, its end or its trap, and has put these values
pub record IsFinished (c : Checked) (program : ProgramTree) (s : Setting) (start : source.World) (number : ℕ) (puts : List ℕ) (trap : Option TrapKind) (after : source.World) : Type 0 where
  pub runs : RunsTo program s.caps start number (record { trap = trap; world = after })
  pub outputs : after.outputs ≡ with_puts start number puts

-- the same, and the machine world stands for the source's after it
abbrev pub IsFinishedIn : Checked → ProgramTree → Setting → source.World → ℕ → List ℕ → World → Type 0
IsFinishedIn c program s start number puts w = (after : source.World) × IsFinished c program s start number puts None after × StandsSettled c program w after

-- the result of a step of the world for a segment that had put these values; nothing is said if fuel, threads or chunks
-- run out, and no step is wrong
abbrev pub StepReaches : Checked → ProgramTree → Setting → source.World → ℕ → List ℕ → Move → Type 0
StepReaches c program s start number puts (machine.Goes after) = IsReached c program s start number puts after
StepReaches c program s start number puts (machine.Puts value after) = IsReached c program s start number (puts ++ value ∷ []) after
StepReaches c program s start number puts (machine.Spawns started after) = IsReached c program s start number puts after
StepReaches c program s start number puts (machine.Blocks after) = IsFinishedIn c program s start number puts after
StepReaches c program s start number puts (machine.Ends after) = IsFinishedIn c program s start number puts after
StepReaches c program s start number puts (machine.Stops (Stop.Trap kind)) = (after : source.World) × IsFinished c program s start number puts (Some kind) after
StepReaches c program s start number puts (machine.Stops stop) = Unit {0}
StepReaches c program s start number puts machine.Wrong = ⊥
