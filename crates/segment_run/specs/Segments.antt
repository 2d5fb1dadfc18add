-- What the answer of a segment says of the machine: good steps of the thread, one instruction each, followed by the
-- step that the answer names.
use Rattle.std.specs.Prelude.{◌≡◌, ℕ, ◌+◌, ◌<◌, List, [], length, Option}
use Rattle.cap_word.specs.Calls.{Blocking, Immediate}
use Rattle.cap_word.specs.Runs.{Asks, Stops}
use Rattle.cap_word.specs.declared.calls.Ask.{Ask}
use Rattle.chunk_pool.specs.Pool.{chunk_of, shape_of, FitsNone}
use Rattle.rv_machine.specs.Registers.{read}
use Rattle.flat_code.specs.declared.operations.Op.{Op}
use Rattle.stack_certificate.specs.Certificates.{fact_at, need_of}
use Rattle.stack_certificate.specs.Templates.{kind_of}
use Rattle.machine_world.specs.Held.{copies_in}
use Rattle.stack_certificate.specs.Registers.{t1}
use Rattle.machine_world.specs.Local.{Local, Question, Calls, Starts, Ended, Trapped, NoRoom, local_step}
use Rattle.machine_world.specs.Places.{Checked}
use Rattle.segment_laws.specs.Ways.{IsGoodState, Leads}
use Rattle.segment_run.specs.Contexts.{IsOwned}
use Rattle.segment_run.specs.Safe.{RestsAtCall}
use Rattle.segment_run.specs.declared.segments.Segment.{Segment}
use Rattle.segment_run.specs.declared.segments.Segment.TheVariants as answer

-- the thread rests at the ECALL of a modelled call, which it asks
pub record IsAtModel (c : Checked) (code : List ℕ) (l : Local) (question : Question) : Type 0 where
  pub site : ℕ
  pub number : ℕ
  pub place : Option ℕ
  pub arguments : List ℕ
  pub rests : RestsAtCall c l (Op.Model site place number arguments)
  pub asks : local_step code l ≡ Asks question l

-- the thread rests at the ECALL of a spawn of a function, and asks for a thread at its entry, on a chunk for the need
pub record IsAtSpawn (c : Checked) (code : List ℕ) (l : Local) (function argument : ℕ) : Type 0 where
  pub there : function < length c.flat.functions
  pub site : ℕ
  pub variable : ℕ
  pub place : Option ℕ
  pub rests : RestsAtCall c l (Op.Spawn site place function variable)
  pub asks : local_step code l ≡ Asks (Starts (fact_at c.certificate function).entry argument (need_of (kind_of c.certificate (Op.Spawn site place function variable)))) l

abbrev pub IsAtAsk : Checked → List ℕ → Local → Ask → Type 0
IsAtAsk c code l (Ask.Spawn function argument) = IsAtSpawn c code l function argument
IsAtAsk c code l ask = IsAtModel c code l (Calls (Immediate ask))

-- what an answer says of the thread to which the steps led, with this fuel left, and of the thread and the fuel after
-- the call. For every answer except an end, nothing more retires, and nothing has changed.
abbrev pub IsEnd : Checked → List ℕ → Segment → Local → ℕ → Local → ℕ → Type 0
IsEnd c code (answer.Blocks block) at left after left_after =
    (0 < left) × IsAtModel c code at (Calls (Blocking block)) × (after ≡ at) × (left_after ≡ left)
IsEnd c code (answer.Asks ask) at left after left_after = (0 < left) × IsAtAsk c code at ask × (after ≡ at) × (left_after ≡ left)
IsEnd c code answer.Ends at left after left_after =
    (local_step code at ≡ Stops (Ended after.areas)) × (after.core.chain ≡ []) × (left_after + 1 ≡ left)
IsEnd c code (answer.Traps kind) at left after left_after =
    (0 < left) × (local_step code at ≡ Stops (Trapped kind)) × (after ≡ at) × (left_after ≡ left)
IsEnd c code answer.NoChunk at left after left_after =
    (0 < left) × (local_step code at ≡ Stops NoRoom) × FitsNone at.areas.pool (read at.core.x t1) × (after ≡ at) × (left_after ≡ left)
IsEnd c code answer.OutOfFuel at left after left_after = (left ≡ 0) × (after ≡ at) × (left_after ≡ 0)

-- a segment from one thread and fuel to another: a number of instructions, each from a good state, up to the good state
-- of the answer
pub record IsSegment (c : Checked) (code : List ℕ) (segment : Segment) (before : Local) (left : ℕ) (after : Local) (left_after : ℕ) : Type 0 where
  pub steps : ℕ
  pub spare : ℕ
  pub at : Local
  pub fuel : steps + spare ≡ left
  pub leads : Leads c code steps before at
  pub good : IsGoodState c code at
  pub end : IsEnd c code segment at spare after left_after

-- the pool has the same shape; no chunk that was neither in the chain nor free has changed; chain and free lists
-- together have the same chunks as before, and those of the chain are held and distinct
pub record KeepsChunks (before after : Local) : Type 0 where
  pub shape : shape_of after.areas.pool ≡ shape_of before.areas.pool
  pub others : (chunk : ℕ) → copies_in chunk before ≡ 0 → chunk_of after.areas.pool chunk ≡ chunk_of before.areas.pool chunk
  pub copies : (chunk : ℕ) → copies_in chunk after ≡ copies_in chunk before
  pub owned : IsOwned after.areas.pool after.core.chain
