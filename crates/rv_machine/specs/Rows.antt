-- The effect of an instruction on the machine, in the few forms of the table's rows.
use Rattle.std.specs.Prelude.{ℕ, ◌%◌, ◌^◌, ◌==◌, Bool, if◌then◌else◌, List, ℤ, Option, Some, None, Result, Ok, Err}
use Rattle.cap_word.specs.Word as word
use Rattle.cap_word.specs.declared.faults.FaultKind.{FaultKind}
use Rattle.cap_word.specs.declared.faults.FaultKind.TheVariants.{Load, Store, Misaligned}
use Rattle.rv_code.specs.Field.{signed}
use Rattle.rv_machine.specs.Bytes.{half_at, word_at, half_is_writable, word_is_writable, Stored, Nothing, Byte, Half, Word}
use Rattle.rv_machine.specs.Registers.{read, write}

-- the machine: pc, the registers, the readable bytes and the writable addresses
pub record Machine : Type 0 where
  pub pc : ℕ
  pub x : List ℕ
  pub bytes : ℕ → Option ℕ
  pub writable : ℕ → Bool

-- the outcome of a step: it continues with this pc, these registers and this store; it asks for the call with
-- this number; or it is a fault
pub data Outcome : Type 0 where
  Goes : (pc : ℕ) (x : List ℕ) (stored : Stored) → Outcome
  Asks : (number : ℕ) → Outcome
  Fails : (kind : FaultKind) → Outcome

-- the address of the next instruction
abbrev pub next : Machine → ℕ
next m = word.add m.pc 4

-- the address of a load or store, or the target of JALR before its bit 0 is cleared
abbrev pub address : Machine → ℕ → ℤ → ℕ
address m rs1 imm = word.add (read m.x rs1) (word.word_of imm)

-- the address at an offset from the instruction
abbrev pub relative : Machine → ℤ → ℕ
relative m imm = word.add m.pc (word.word_of imm)

-- only pc changes
unfoldable pub passes : Machine → Outcome
passes m = Goes (next m) m.x Nothing

-- a register is set
unfoldable pub sets : Machine → ℕ → ℕ → Outcome
sets m rd value = Goes (next m) (write m.x rd value) Nothing

-- a jump, which sets a register to the next instruction's address
unfoldable pub jumps : Machine → ℕ → ℕ → Outcome
jumps m rd target = if target % 4 == 0 then Goes target (write m.x rd (next m)) Nothing else Fails Misaligned

-- a branch, taken if the test holds
unfoldable pub branches : Machine → ℤ → Bool → Outcome
branches m imm taken =
    if taken then (if relative m imm % 4 == 0 then Goes (relative m imm) m.x Nothing else Fails Misaligned) else passes m

-- ---- loads

-- the value found at an address, or the fault
abbrev pub found : Option ℕ → Result ℕ FaultKind
found (Some value) = Ok value
found None = Err Load

unfoldable pub byte_loaded : (ℕ → Option ℕ) → ℕ → Result ℕ FaultKind
byte_loaded bytes at = found (bytes at)

unfoldable pub half_loaded : (ℕ → Option ℕ) → ℕ → Result ℕ FaultKind
half_loaded bytes at = if at % 2 == 0 then found (half_at bytes at) else Err Misaligned

unfoldable pub word_loaded : (ℕ → Option ℕ) → ℕ → Result ℕ FaultKind
word_loaded bytes at = if at % 4 == 0 then found (word_at bytes at) else Err Misaligned

-- the sign of a loaded value of that width, extended
unfoldable pub extended : ℕ → Result ℕ FaultKind → Result ℕ FaultKind
extended width (Ok value) = Ok (word.word_of (signed width value))
extended width (Err kind) = Err kind

-- a register is set to the loaded value
unfoldable pub loads : Machine → ℕ → Result ℕ FaultKind → Outcome
loads m rd (Ok value) = sets m rd value
loads m rd (Err kind) = Fails kind

-- ---- stores

-- this is stored, if all of it is writable
abbrev pub stores : Machine → Bool → Stored → Outcome
stores m writable stored = if writable then Goes (next m) m.x stored else Fails Store

unfoldable pub byte_stored : Machine → ℕ → ℕ → Outcome
byte_stored m at value = stores m (m.writable at) (Byte at (value % 2 ^ 8))

unfoldable pub half_stored : Machine → ℕ → ℕ → Outcome
half_stored m at value =
    if at % 2 == 0 then stores m (half_is_writable m.writable at) (Half at (value % 2 ^ 16)) else Fails Misaligned

unfoldable pub word_stored : Machine → ℕ → ℕ → Outcome
word_stored m at value = if at % 4 == 0 then stores m (word_is_writable m.writable at) (Word at value) else Fails Misaligned
