-- A step of a machine of words leaves one, and tells words.
use Rattle.rv_machine.proofs.Common.{◌≡◌, ℕ, ◌+◌, ◌*◌, ◌%◌, ◌/◌, ◌^◌, ◌<◌, ◌≤◌, Bool, true, false, eqb, List, length, set, get_or, ℤ, Option, Some, None, Result, Ok, Err, refl, arith, lit<, All, ⊎_elim, IfSome, IfOk, cond_both, cases_lt, length-set, get_or_past, FaultKind, Store, Misaligned, Instr, Lui, Auipc, Jal, Jalr, Beq, Bne, Blt, Bge, Bltu, Bgeu, Lb, Lh, Lw, Lbu, Lhu, Sb, Sh, Sw, Addi, Slti, Sltiu, Xori, Ori, Andi, Slli, Srli, Srai, Add, Sub, Sll, Slt, Sltu, Xor, Srl, Sra, Or, And, Fence, Ecall, Ebreak, Mul, Mulh, Mulhsu, Mulhu, Div, Divu, Rem, Remu, half_at, word_at, joined, put_byte, replaced, with_half, with_word, with_stored, half_is_writable, word_is_writable, Stored, Nothing, Byte, Half, Word, effect, upper, read, write, Machine, Outcome, Goes, Fails, next, address, relative, passes, sets, jumps, branches, loads, found, byte_loaded, half_loaded, word_loaded, extended, stores, byte_stored, half_stored, word_stored, instruction_at, started, outcome, machine_after}
use Rattle.std.proofs.lemmas.List.Elements.{All-set, All-get_or}
use Rattle.std.proofs.lemmas.Nat.{xor_lt, or_lt, and_le_l, row_fits}
use Rattle.cap_word.specs.Word.{word_of}
use Rattle.cap_word.proofs.WordRange as range
use Rattle.rv_machine.specs.Words.{IsWords, TellsWords}

-- what a step comes to leaves a machine of words, and tells words
record Keeps (m : Machine) (o : Outcome) : Type 0 where
  stay : IsWords (machine_after o m)
  told : TellsWords o

-- ---- registers

pub read-below : (x : List ℕ) (register : ℕ) → All (λ value. value < 2 ^ 32) x → read x register < 2 ^ 32
read-below x register words =
    cond_both (eqb register 0) 0 (get_or x register 0) (λ value. value < 2 ^ 32)
    (λ _. lit< tt)
    (λ _. ⊎_elim
    (λ (within : register < length x). All-get_or (λ value. value < 2 ^ 32) x register 0 within words)
    (λ (past : length x ≤ register). let none : get_or x register 0 ≡ 0 = get_or_past x register 0 past in omega arith)
    (cases_lt register (length x)))

pub length-write : (x : List ℕ) (register value : ℕ) → length x ≡ 32 → length (write x register value) ≡ 32
length-write x register value count =
    cond_both (eqb register 0) x (set x register value) (λ x. length x ≡ 32) (λ _. count) (λ _. omega (arith, length-set x register value))

All-write : (x : List ℕ) (register value : ℕ) → value < 2 ^ 32 → All (λ v. v < 2 ^ 32) x → All (λ v. v < 2 ^ 32) (write x register value)
All-write x register value below words =
    cond_both (eqb register 0) x (set x register value) (All (λ v. v < 2 ^ 32)) (λ _. words) (λ _. All-set (λ v. v < 2 ^ 32) x register value below words)

-- ---- bytes

abbrev AreBytes : (ℕ → Option ℕ) → Type 0
AreBytes bytes = (at : ℕ) → IfSome (bytes at) (λ byte. byte < 2 ^ 8)

replaced-below : (old : Option ℕ) (value : ℕ) → value < 2 ^ 8 → IfSome (replaced old value) (λ byte. byte < 2 ^ 8)
replaced-below None value below = tt
replaced-below (Some old) value below = below

AreBytes-put : (bytes : ℕ → Option ℕ) (address value : ℕ) → value < 2 ^ 8 → AreBytes bytes → AreBytes (put_byte bytes address value)
unfolding put_byte
AreBytes-put bytes address value below old at =
    cond_both (eqb at address) (replaced (bytes at) value) (bytes at) (λ byte. IfSome byte (λ byte. byte < 2 ^ 8))
    (λ _. replaced-below (bytes at) value below)
    (λ _. old at)

AreBytes-half : (bytes : ℕ → Option ℕ) (address value : ℕ) → value < 2 ^ 16 → AreBytes bytes → AreBytes (with_half put_byte bytes address value)
unfolding with_half
AreBytes-half bytes address value below old =
    AreBytes-put _ (address + 1) (value / 2 ^ 8) (omega arith) (AreBytes-put bytes address (value % 2 ^ 8) (omega arith) old)

AreBytes-word : (bytes : ℕ → Option ℕ) (address value : ℕ) → value < 2 ^ 32 → AreBytes bytes → AreBytes (with_word put_byte bytes address value)
unfolding with_word
AreBytes-word bytes address value below old =
    AreBytes-half _ (address + 2) (value / 2 ^ 16) (omega arith) (AreBytes-half bytes address (value % 2 ^ 16) (omega arith) old)

joined-below : (size bound : ℕ) (low high : Option ℕ) → size * size ≡ bound → IfSome low (λ v. v < size) → IfSome high (λ v. v < size) → IfSome (joined size low high) (λ v. v < bound)
joined-below size bound (Some low) (Some high) square below below' =
    omega (arith, row_fits high size size size below' (omega arith))
joined-below size bound _ _ square below below' = tt

half_at-below : (bytes : ℕ → Option ℕ) (at : ℕ) → AreBytes bytes → IfSome (half_at bytes at) (λ half. half < 2 ^ 16)
unfolding half_at
half_at-below bytes at old = joined-below (2 ^ 8) (2 ^ 16) (bytes at) (bytes (at + 1)) refl (old at) (old (at + 1))

word_at-below : (bytes : ℕ → Option ℕ) (at : ℕ) → AreBytes bytes → IfSome (word_at bytes at) (λ w. w < 2 ^ 32)
unfolding word_at
word_at-below bytes at old = joined-below (2 ^ 16) (2 ^ 32) (half_at bytes at) (half_at bytes (at + 2)) refl (half_at-below bytes at old) (half_at-below bytes (at + 2) old)

found-below : (bound : ℕ) (o : Option ℕ) → bound ≤ 2 ^ 32 → IfSome o (λ v. v < bound) → IfOk (found o) (λ v. v < 2 ^ 32)
found-below bound None most below = tt
found-below bound (Some v) most below = omega arith

byte_loaded-below : (bytes : ℕ → Option ℕ) (at : ℕ) → AreBytes bytes → IfOk (byte_loaded bytes at) (λ v. v < 2 ^ 32)
unfolding byte_loaded
byte_loaded-below bytes at old = found-below (2 ^ 8) (bytes at) (omega arith) (old at)

half_loaded-below : (bytes : ℕ → Option ℕ) (at : ℕ) → AreBytes bytes → IfOk (half_loaded bytes at) (λ v. v < 2 ^ 32)
unfolding half_loaded
half_loaded-below bytes at old =
    cond_both (eqb (at % 2) 0) (found (half_at bytes at)) (Err Misaligned) (λ loaded. IfOk loaded (λ v. v < 2 ^ 32))
    (λ _. found-below (2 ^ 16) (half_at bytes at) (omega arith) (half_at-below bytes at old))
    (λ _. tt)

word_loaded-below : (bytes : ℕ → Option ℕ) (at : ℕ) → AreBytes bytes → IfOk (word_loaded bytes at) (λ v. v < 2 ^ 32)
unfolding word_loaded
word_loaded-below bytes at old =
    cond_both (eqb (at % 4) 0) (found (word_at bytes at)) (Err Misaligned) (λ loaded. IfOk loaded (λ v. v < 2 ^ 32))
    (λ _. found-below (2 ^ 32) (word_at bytes at) (omega arith) (word_at-below bytes at old))
    (λ _. tt)

extended-below : (width : ℕ) (loaded : Result ℕ FaultKind) → IfOk (extended width loaded) (λ v. v < 2 ^ 32)
unfolding extended
extended-below width (Ok value) = range.word_of-below _
extended-below width (Err kind) = tt

-- ---- the forms of the rows

Keeps-passes : (m : Machine) → IsWords m → Keeps m (passes m)
unfolding passes
Keeps-passes m w = record {
  stay = record { pc = range.add-below m.pc 4; count = w.count; registers = w.registers; bytes = w.bytes };
  told = tt;
}

Keeps-sets : (m : Machine) (rd value : ℕ) → IsWords m → value < 2 ^ 32 → Keeps m (sets m rd value)
unfolding sets
Keeps-sets m rd value w below = record {
  stay = record { pc = range.add-below m.pc 4; count = length-write m.x rd value w.count; registers = All-write m.x rd value below w.registers; bytes = w.bytes };
  told = tt;
}

Keeps-fails : (m : Machine) (kind : FaultKind) → IsWords m → Keeps m (Fails kind)
Keeps-fails m kind w = record { stay = w; told = tt }

Keeps-jumps : (m : Machine) (rd target : ℕ) → IsWords m → target < 2 ^ 32 → Keeps m (jumps m rd target)
unfolding jumps
Keeps-jumps m rd target w below =
    let link = range.add-below m.pc 4 in
    cond_both (eqb (target % 4) 0) (Goes target (write m.x rd (next m)) Nothing) (Fails Misaligned) (Keeps m)
    (λ _. record {
      stay = record { pc = below; count = length-write m.x rd (next m) w.count; registers = All-write m.x rd (next m) link w.registers; bytes = w.bytes };
      told = tt;
    })
    (λ _. Keeps-fails m Misaligned w)

Keeps-branches : (m : Machine) (imm : ℤ) (taken : Bool) → IsWords m → Keeps m (branches m imm taken)
unfolding branches
Keeps-branches m imm true w =
    let target = range.add-below m.pc (word_of imm) in
    cond_both (eqb (relative m imm % 4) 0) (Goes (relative m imm) m.x Nothing) (Fails Misaligned) (Keeps m)
    (λ _. record {
      stay = record { pc = target; count = w.count; registers = w.registers; bytes = w.bytes };
      told = tt;
    })
    (λ _. Keeps-fails m Misaligned w)
Keeps-branches m imm false w = Keeps-passes m w

Keeps-loads : (m : Machine) (rd : ℕ) (loaded : Result ℕ FaultKind) → IsWords m → IfOk loaded (λ v. v < 2 ^ 32) → Keeps m (loads m rd loaded)
unfolding loads
Keeps-loads m rd (Ok value) w below = Keeps-sets m rd value w below
Keeps-loads m rd (Err kind) w below = Keeps-fails m kind w

Keeps-stores : (m : Machine) (may : Bool) (stored : Stored) → IsWords m → AreBytes (with_stored put_byte stored m.bytes) → TellsWords (Goes (next m) m.x stored) → Keeps m (stores m may stored)
Keeps-stores m true stored w bytes told = record {
  stay = record { pc = range.add-below m.pc 4; count = w.count; registers = w.registers; bytes = bytes };
  told = told;
}
Keeps-stores m false stored w bytes told = Keeps-fails m Store w

Keeps-byte_stored : (m : Machine) (at value : ℕ) → IsWords m → at < 2 ^ 32 → Keeps m (byte_stored m at value)
unfolding byte_stored
Keeps-byte_stored m at value w below =
    let byte : value % 2 ^ 8 < 2 ^ 8 = omega arith in
    Keeps-stores m (m.writable at) (Byte at (value % 2 ^ 8)) w (AreBytes-put m.bytes at (value % 2 ^ 8) byte w.bytes) (below, byte)

Keeps-half_stored : (m : Machine) (at value : ℕ) → IsWords m → at < 2 ^ 32 → Keeps m (half_stored m at value)
unfolding half_stored
Keeps-half_stored m at value w below =
    let half : value % 2 ^ 16 < 2 ^ 16 = omega arith in
    cond_both (eqb (at % 2) 0) (stores m (half_is_writable m.writable at) (Half at (value % 2 ^ 16))) (Fails Misaligned) (Keeps m)
    (λ _. Keeps-stores m (half_is_writable m.writable at) (Half at (value % 2 ^ 16)) w (AreBytes-half m.bytes at (value % 2 ^ 16) half w.bytes) (below, half))
    (λ _. Keeps-fails m Misaligned w)

Keeps-word_stored : (m : Machine) (at value : ℕ) → IsWords m → at < 2 ^ 32 → value < 2 ^ 32 → Keeps m (word_stored m at value)
unfolding word_stored
Keeps-word_stored m at value w below fits =
    cond_both (eqb (at % 4) 0) (stores m (word_is_writable m.writable at) (Word at value)) (Fails Misaligned) (Keeps m)
    (λ _. Keeps-stores m (word_is_writable m.writable at) (Word at value) w (AreBytes-word m.bytes at value fits w.bytes) (below, fits))
    (λ _. Keeps-fails m Misaligned w)

-- ---- the table

upper-below : (imm : ℤ) → upper imm < 2 ^ 32
upper-below imm = omega arith

Keeps-effect : (instr : Instr) (m : Machine) → IsWords m → Keeps m (effect instr m)
unfolding effect
Keeps-effect (Lui rd imm) m w = Keeps-sets m rd _ w (upper-below imm)
Keeps-effect (Auipc rd imm) m w = Keeps-sets m rd _ w (range.add-below _ _)
Keeps-effect (Jal rd imm) m w = Keeps-jumps m rd _ w (range.add-below _ _)
Keeps-effect (Jalr rd rs1 imm) m w = let at : address m rs1 imm < 2 ^ 32 = range.add-below _ _ in Keeps-jumps m rd _ w (omega arith)
Keeps-effect (Beq rs1 rs2 imm) m w = Keeps-branches m imm _ w
Keeps-effect (Bne rs1 rs2 imm) m w = Keeps-branches m imm _ w
Keeps-effect (Blt rs1 rs2 imm) m w = Keeps-branches m imm _ w
Keeps-effect (Bge rs1 rs2 imm) m w = Keeps-branches m imm _ w
Keeps-effect (Bltu rs1 rs2 imm) m w = Keeps-branches m imm _ w
Keeps-effect (Bgeu rs1 rs2 imm) m w = Keeps-branches m imm _ w
Keeps-effect (Lb rd rs1 imm) m w = Keeps-loads m rd _ w (extended-below 8 _)
Keeps-effect (Lh rd rs1 imm) m w = Keeps-loads m rd _ w (extended-below 16 _)
Keeps-effect (Lw rd rs1 imm) m w = Keeps-loads m rd _ w (word_loaded-below m.bytes _ w.bytes)
Keeps-effect (Lbu rd rs1 imm) m w = Keeps-loads m rd _ w (byte_loaded-below m.bytes _ w.bytes)
Keeps-effect (Lhu rd rs1 imm) m w = Keeps-loads m rd _ w (half_loaded-below m.bytes _ w.bytes)
Keeps-effect (Sb rs1 rs2 imm) m w = Keeps-byte_stored m _ _ w (range.add-below _ _)
Keeps-effect (Sh rs1 rs2 imm) m w = Keeps-half_stored m _ _ w (range.add-below _ _)
Keeps-effect (Sw rs1 rs2 imm) m w = Keeps-word_stored m _ _ w (range.add-below _ _) (read-below m.x rs2 w.registers)
Keeps-effect (Addi rd rs1 imm) m w = Keeps-sets m rd _ w (range.add-below _ _)
Keeps-effect (Slti rd rs1 imm) m w = Keeps-sets m rd _ w (range.slt-below _ _)
Keeps-effect (Sltiu rd rs1 imm) m w = Keeps-sets m rd _ w (range.sltu-below _ _)
Keeps-effect (Xori rd rs1 imm) m w = Keeps-sets m rd _ w (xor_lt 32 _ _ (read-below m.x rs1 w.registers) (range.word_of-below imm))
Keeps-effect (Ori rd rs1 imm) m w = Keeps-sets m rd _ w (or_lt 32 _ _ (read-below m.x rs1 w.registers) (range.word_of-below imm))
Keeps-effect (Andi rd rs1 imm) m w = let a = read-below m.x rs1 w.registers in Keeps-sets m rd _ w (omega (arith, and_le_l (read m.x rs1) (word_of imm)))
Keeps-effect (Slli rd rs1 imm) m w = Keeps-sets m rd _ w (range.sll-below _ _)
Keeps-effect (Srli rd rs1 imm) m w = Keeps-sets m rd _ w (range.srl-below _ _ (read-below m.x rs1 w.registers))
Keeps-effect (Srai rd rs1 imm) m w = Keeps-sets m rd _ w (range.sra-below _ _)
Keeps-effect (Add rd rs1 rs2) m w = Keeps-sets m rd _ w (range.add-below _ _)
Keeps-effect (Sub rd rs1 rs2) m w = Keeps-sets m rd _ w (range.sub-below _ _)
Keeps-effect (Sll rd rs1 rs2) m w = Keeps-sets m rd _ w (range.sll-below _ _)
Keeps-effect (Slt rd rs1 rs2) m w = Keeps-sets m rd _ w (range.slt-below _ _)
Keeps-effect (Sltu rd rs1 rs2) m w = Keeps-sets m rd _ w (range.sltu-below _ _)
Keeps-effect (Xor rd rs1 rs2) m w = Keeps-sets m rd _ w (xor_lt 32 _ _ (read-below m.x rs1 w.registers) (read-below m.x rs2 w.registers))
Keeps-effect (Srl rd rs1 rs2) m w = Keeps-sets m rd _ w (range.srl-below _ _ (read-below m.x rs1 w.registers))
Keeps-effect (Sra rd rs1 rs2) m w = Keeps-sets m rd _ w (range.sra-below _ _)
Keeps-effect (Or rd rs1 rs2) m w = Keeps-sets m rd _ w (or_lt 32 _ _ (read-below m.x rs1 w.registers) (read-below m.x rs2 w.registers))
Keeps-effect (And rd rs1 rs2) m w = let a = read-below m.x rs1 w.registers in Keeps-sets m rd _ w (omega (arith, and_le_l (read m.x rs1) (read m.x rs2)))
Keeps-effect (Fence rd rs1 imm) m w = Keeps-passes m w
Keeps-effect Ecall m w = record { stay = w; told = read-below m.x 17 w.registers }
Keeps-effect Ebreak m w = Keeps-fails m _ w
Keeps-effect (Mul rd rs1 rs2) m w = Keeps-sets m rd _ w (range.mul-below _ _)
Keeps-effect (Mulh rd rs1 rs2) m w = Keeps-sets m rd _ w (range.mulh-below _ _)
Keeps-effect (Mulhsu rd rs1 rs2) m w = Keeps-sets m rd _ w (range.mulhsu-below _ _)
Keeps-effect (Mulhu rd rs1 rs2) m w = Keeps-sets m rd _ w (range.mulhu-below _ _ (read-below m.x rs1 w.registers) (read-below m.x rs2 w.registers))
Keeps-effect (Div rd rs1 rs2) m w = Keeps-sets m rd _ w (range.div-below _ _)
Keeps-effect (Divu rd rs1 rs2) m w = Keeps-sets m rd _ w (range.divu-below _ _ (read-below m.x rs1 w.registers))
Keeps-effect (Rem rd rs1 rs2) m w = Keeps-sets m rd _ w (range.rem-below _ _ (read-below m.x rs1 w.registers))
Keeps-effect (Remu rd rs1 rs2) m w = Keeps-sets m rd _ w (range.remu-below _ _ (read-below m.x rs1 w.registers))

Keeps-started : (fetched : Result Instr FaultKind) (m : Machine) → IsWords m → Keeps m (started fetched m)
unfolding started
Keeps-started (Ok instr) m w = Keeps-effect instr m w
Keeps-started (Err kind) m w = Keeps-fails m kind w

Keeps-outcome : (code : List ℕ) (m : Machine) → IsWords m → Keeps m (outcome code m)
unfolding outcome
Keeps-outcome code m w = Keeps-started (instruction_at code m.pc) m w

pub IsWords-outcome : (code : List ℕ) (m : Machine) → IsWords m → IsWords (machine_after (outcome code m) m)
IsWords-outcome code m w = (Keeps-outcome code m w).stay

pub TellsWords-outcome : (code : List ℕ) (m : Machine) → IsWords m → TellsWords (outcome code m)
TellsWords-outcome code m w = (Keeps-outcome code m w).told
