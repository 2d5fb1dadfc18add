-- One step of the machine: the instruction at pc, and its outcome. The faults have this order: a pc that isn't a
-- multiple of 4, one that isn't in the code, a word that isn't an instruction, and the faults of the instruction
-- itself.
use Rattle.std.specs.Prelude.{ℕ, ◌-◌, ◌/◌, ◌%◌, ◌==◌, Bool, nat_lt, if◌then◌else◌, List, Option, Some, None, Result, Ok, Err, slice_get}
use Rattle.cap_word.specs.declared.faults.FaultKind.{FaultKind}
use Rattle.cap_word.specs.declared.faults.FaultKind.TheVariants.{Fetch, Illegal, Misaligned}
use Rattle.rv_code.specs.Decoding.{decoding}
use Rattle.rv_code.specs.declared.instructions.Instr.{Instr}
use Rattle.stack_image.specs.Addresses.{code_start}
use Rattle.rv_machine.specs.declared.registers.Regs.{Regs}
use Rattle.rv_machine.specs.declared.results.StepResult.{StepResult}
use Rattle.rv_machine.specs.declared.results.StepResult.TheVariants.{Went, Call, Fault}
use Rattle.rv_machine.specs.Bytes.{put_byte, with_stored}
use Rattle.rv_machine.specs.Effect.{effect}
use Rattle.rv_machine.specs.Rows.{Machine, Outcome, Goes, Asks, Fails}

-- the word of the code at a place that is a multiple of 4
abbrev pub code_word : List ℕ → ℕ → Option ℕ
code_word code pc = if nat_lt pc code_start then None else slice_get code ((pc - code_start) / 4)

-- the instruction that was decoded
abbrev pub decoded : Option Instr → Result Instr FaultKind
decoded (Some instr) = Ok instr
decoded None = Err Illegal

-- the instruction of the word that was fetched
abbrev pub fetched : Option ℕ → Result Instr FaultKind
fetched (Some word) = decoded (decoding word)
fetched None = Err Fetch

-- the instruction at pc
unfoldable pub instruction_at : List ℕ → ℕ → Result Instr FaultKind
instruction_at code pc = if pc % 4 == 0 then fetched (code_word code pc) else Err Misaligned

-- the effect of that instruction
unfoldable pub started : Result Instr FaultKind → Machine → Outcome
started (Ok instr) m = effect instr m
started (Err kind) m = Fails kind

-- the outcome of a step, over that code
unfoldable pub outcome : List ℕ → Machine → Outcome
outcome code m = started (instruction_at code m.pc) m

-- ---- the machine with these registers and this memory, and the visible results of an outcome

abbrev pub machine : Regs → (ℕ → Option ℕ) → (ℕ → Bool) → Machine
machine regs bytes writable = record { pc = regs.pc; x = regs.x; bytes = bytes; writable = writable }

-- the result; a fault has the address of the instruction
abbrev pub answer : Outcome → Regs → StepResult
answer (Goes pc x stored) regs = Went
answer (Asks number) regs = Call number
answer (Fails kind) regs = Fault regs.pc kind

-- the registers afterwards: unchanged, unless the step continues
abbrev pub regs_after : Outcome → Regs → Regs
regs_after (Goes pc x stored) regs = record { pc = pc; x = x }
regs_after (Asks number) regs = regs
regs_after (Fails kind) regs = regs

-- memory of any kind afterwards, if `put` is its value after a byte is stored: unchanged, unless the step
-- continues
abbrev pub memory_after : {S : Type 0} → (S → ℕ → ℕ → S) → Outcome → S → S
memory_after put (Goes pc x stored) old = with_stored put stored old
memory_after put (Asks number) old = old
memory_after put (Fails kind) old = old

-- the bytes afterwards
abbrev pub bytes_after : Outcome → (ℕ → Option ℕ) → ℕ → Option ℕ
bytes_after outcome old = memory_after put_byte outcome old

-- the machine afterwards
abbrev pub machine_after : Outcome → Machine → Machine
machine_after (Goes pc x stored) m = record m { pc = pc; x = x; bytes = with_stored put_byte stored m.bytes }
machine_after (Asks number) m = m
machine_after (Fails kind) m = m
