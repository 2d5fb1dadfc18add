-- The bytes that an instruction loads or stores: an address and a width. An access that isn't aligned, readable or
-- writable is a fault, but is defined here all the same.
use Rattle.std.specs.Prelude.{◌≡◌, ℕ, ◌+◌, ◌%◌, ◌<◌, ◌≤◌, Bool, true, List, Option, Some, None, Result, Ok, Err}
use Rattle.cap_word.specs.declared.faults.FaultKind.{FaultKind}
use Rattle.rv_code.specs.declared.instructions.Instr.{Instr}
use Rattle.rv_code.specs.declared.instructions.Instr.TheVariants.{Lui, Auipc, Jal, Jalr, Beq, Bne, Blt, Bge, Bltu, Bgeu, Lb, Lh, Lw, Lbu, Lhu, Sb, Sh, Sw, Addi, Slti, Sltiu, Xori, Ori, Andi, Slli, Srli, Srai, Add, Sub, Sll, Slt, Sltu, Xor, Srl, Sra, Or, And, Fence, Ecall, Ebreak, Mul, Mulh, Mulhsu, Mulhu, Div, Divu, Rem, Remu}
use Rattle.rv_machine.specs.Bytes.{half_is_writable, word_is_writable, Nothing, Byte, Half, Word}
use Rattle.rv_machine.specs.Rows.{Machine, Outcome, Goes, Asks, Fails, address}
use Rattle.rv_machine.specs.Step.{instruction_at}

-- a number of bytes from an address on
pub record Access : Type 0 where
  pub address : ℕ
  pub width : ℕ

abbrev pub access : ℕ → ℕ → Option Access
access address width = Some (record { address = address; width = width })

-- the access of an instruction, in the order of the table of instructions
unfoldable pub accessed : Instr → Machine → Option Access
accessed (Lui rd imm) m = None
accessed (Auipc rd imm) m = None
accessed (Jal rd imm) m = None
accessed (Jalr rd rs1 imm) m = None
accessed (Beq rs1 rs2 imm) m = None
accessed (Bne rs1 rs2 imm) m = None
accessed (Blt rs1 rs2 imm) m = None
accessed (Bge rs1 rs2 imm) m = None
accessed (Bltu rs1 rs2 imm) m = None
accessed (Bgeu rs1 rs2 imm) m = None
accessed (Lb rd rs1 imm) m = access (address m rs1 imm) 1
accessed (Lh rd rs1 imm) m = access (address m rs1 imm) 2
accessed (Lw rd rs1 imm) m = access (address m rs1 imm) 4
accessed (Lbu rd rs1 imm) m = access (address m rs1 imm) 1
accessed (Lhu rd rs1 imm) m = access (address m rs1 imm) 2
accessed (Sb rs1 rs2 imm) m = access (address m rs1 imm) 1
accessed (Sh rs1 rs2 imm) m = access (address m rs1 imm) 2
accessed (Sw rs1 rs2 imm) m = access (address m rs1 imm) 4
accessed (Addi rd rs1 imm) m = None
accessed (Slti rd rs1 imm) m = None
accessed (Sltiu rd rs1 imm) m = None
accessed (Xori rd rs1 imm) m = None
accessed (Ori rd rs1 imm) m = None
accessed (Andi rd rs1 imm) m = None
accessed (Slli rd rs1 imm) m = None
accessed (Srli rd rs1 imm) m = None
accessed (Srai rd rs1 imm) m = None
accessed (Add rd rs1 rs2) m = None
accessed (Sub rd rs1 rs2) m = None
accessed (Sll rd rs1 rs2) m = None
accessed (Slt rd rs1 rs2) m = None
accessed (Sltu rd rs1 rs2) m = None
accessed (Xor rd rs1 rs2) m = None
accessed (Srl rd rs1 rs2) m = None
accessed (Sra rd rs1 rs2) m = None
accessed (Or rd rs1 rs2) m = None
accessed (And rd rs1 rs2) m = None
accessed (Fence rd rs1 imm) m = None
accessed Ecall m = None
accessed Ebreak m = None
accessed (Mul rd rs1 rs2) m = None
accessed (Mulh rd rs1 rs2) m = None
accessed (Mulhsu rd rs1 rs2) m = None
accessed (Mulhu rd rs1 rs2) m = None
accessed (Div rd rs1 rs2) m = None
accessed (Divu rd rs1 rs2) m = None
accessed (Rem rd rs1 rs2) m = None
accessed (Remu rd rs1 rs2) m = None

abbrev pub access_of : Result Instr FaultKind → Machine → Option Access
access_of (Ok instr) m = accessed instr m
access_of (Err kind) m = None

-- the access of the machine's next step over that code; none if there is no instruction at pc
unfoldable pub next_access : List ℕ → Machine → Option Access
next_access code m = access_of (instruction_at code m.pc) m

-- the address is that of a byte of the access
abbrev pub IsAccessed : Option Access → ℕ → Type 0
IsAccessed None at = ⊥
IsAccessed (Some a) at = (a.address ≤ at) × (at < a.address + a.width)

-- two machines have the same bytes, and the same writable ones, in the access
abbrev pub AgreeIn : Option Access → Machine → Machine → Type 0
AgreeIn access m other = (at : ℕ) → IsAccessed access at → (m.bytes at ≡ other.bytes at) × (m.writable at ≡ other.writable at)

-- if a step stores, it stores its whole access, which is aligned and writable
abbrev pub Fills : Option Access → (ℕ → Bool) → Outcome → Type 0
Fills accessed writable (Goes pc x Nothing) = Unit {0}
Fills accessed writable (Goes pc x (Byte at value)) = (accessed ≡ access at 1) × (writable at ≡ true)
Fills accessed writable (Goes pc x (Half at value)) = (accessed ≡ access at 2) × (at % 2 ≡ 0) × (half_is_writable writable at ≡ true)
Fills accessed writable (Goes pc x (Word at value)) = (accessed ≡ access at 4) × (at % 4 ≡ 0) × (word_is_writable writable at ≡ true)
Fills accessed writable (Asks number) = Unit {0}
Fills accessed writable (Fails kind) = Unit {0}
