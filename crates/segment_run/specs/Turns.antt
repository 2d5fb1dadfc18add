-- What the code returns for one instruction of a thread.
use Rattle.std.specs.Prelude.{◌≡◌, ℕ, ◌+◌, ◌<◌, List, [], Bool, true, false}
use Rattle.cap_word.specs.Calls.{Call, Blocking, Immediate}
use Rattle.cap_word.specs.Runs as runs
use Rattle.cap_word.specs.Runs.{Stops}
use Rattle.chunk_pool.specs.Pool.{chunk_of, shape_of, FitsNone}
use Rattle.rv_machine.specs.Registers.{read}
use Rattle.machine_world.specs.Areas.{Areas}
use Rattle.machine_world.specs.Held.{copies_in}
use Rattle.machine_world.specs.WellFormed.{AreWellFormed}
use Rattle.stack_certificate.specs.Registers.{t1}
use Rattle.machine_world.specs.Local.{Local, Calls, Ended, Trapped, NoRoom, linked, local_step, system_call}
use Rattle.machine_world.specs.Places.{Checked}
use Rattle.segment_laws.specs.Ways.{HasForm, Leads}
use Rattle.segment_run.specs.Contexts.{chain_from}
use Rattle.segment_run.specs.Segments.{IsAtModel, IsAtAsk}
use Rattle.segment_run.specs.declared.running.Thread.{Thread}
use Rattle.segment_run.specs.declared.running.Turn.{Turn}
use Rattle.segment_run.specs.declared.running.Turn.TheVariants.{Goes, Blocks, Asks, Ends, Traps, NoRoom as NoChunkFree}

abbrev pub thread_of : Areas → Thread → Local
thread_of areas thread = record {
  areas = areas;
  core = record { pc = thread.regs.pc; x = thread.regs.x; chain = chain_from areas.pool thread.chunk thread.depth };
}

abbrev pub turn_of : Call → Turn
turn_of (Blocking block) = Blocks block
turn_of (Immediate ask) = Asks ask

-- the outcome of an instruction is the step of the machine world
abbrev pub IsTurn : Checked → List ℕ → Local → Turn → Local → Type 0
IsTurn c code before Goes after = local_step code before ≡ runs.Goes after
IsTurn c code before (Blocks block) after = IsAtModel c code before (Calls (Blocking block)) × (after ≡ before)
IsTurn c code before (Asks ask) after = IsAtAsk c code before ask × (after ≡ before)
IsTurn c code before Ends after = (local_step code before ≡ Stops (Ended after.areas)) × (after.core.chain ≡ [])
IsTurn c code before (Traps kind) after = (local_step code before ≡ Stops (Trapped kind)) × (after ≡ before)
IsTurn c code before NoChunkFree after = (local_step code before ≡ Stops NoRoom) × FitsNone before.areas.pool (read before.core.x t1) × (after ≡ before)

-- a LINK, if a free chunk fits the need, and if none does
abbrev pub IsLink : Bool → Local → Local → Type 0
IsLink true before after = linked before ≡ runs.Goes after
IsLink false before after = (linked before ≡ Stops NoRoom) × FitsNone before.areas.pool (read before.core.x t1) × (after ≡ before)

-- what a thread keeps along its steps, up to its end: the form of the areas, its chunks and the free ones together, and
-- the words of all other chunks
pub record KeepsCounts (c : Checked) (before after : Local) : Type 0 where
  pub areas : AreWellFormed c after.areas
  pub shape : shape_of after.areas.pool ≡ shape_of before.areas.pool
  pub copies : (chunk : ℕ) → copies_in chunk after ≡ copies_in chunk before
  pub others : (chunk : ℕ) → copies_in chunk before ≡ 0 → chunk_of after.areas.pool chunk ≡ chunk_of before.areas.pool chunk

-- a running thread: good steps from its start, each of which keeps its form and its chunks
pub record IsUnderWay (c : Checked) (code : List ℕ) (start : Local) (left : ℕ) (now : Local) (left_now : ℕ) : Type 0 where
  pub steps : ℕ
  pub fuel : steps + left_now ≡ left
  pub leads : Leads c code steps start now
  pub form : HasForm c now
  pub counts : KeepsCounts c start now

-- fuel is left, and the step is the call of a number
pub record IsAtEcall (code : List ℕ) (l : Local) (left : ℕ) (number : ℕ) : Type 0 where
  pub fuel : 0 < left
  pub calls : local_step code l ≡ system_call l number
