-- A step changes no byte outside its access, depends on no other byte, and stores the whole access.
use Rattle.rv_machine.proofs.Common.{◌≡◌, ◌≢◌, ℕ, ◌+◌, ◌%◌, ◌/◌, ◌^◌, Bool, true, false, eqb, List, ℤ, Option, Result, Ok, Err, refl, ap, subst, ◌∙◌, arith, cond_both, cond-false, eqb-true, ne_eqb, ◌&&◌, FaultKind, Store, Misaligned, Instr, Jal, Jalr, Beq, Bne, Blt, Bge, Bltu, Bgeu, Lb, Lh, Lw, Lbu, Lhu, Sb, Sh, Sw, half_at, word_at, joined, put_byte, replaced, with_half, with_word, half_is_writable, word_is_writable, Nothing, Byte, Half, Word, effect, read, write, Machine, Outcome, Goes, Fails, next, address, relative, passes, sets, jumps, branches, loads, found, byte_loaded, half_loaded, word_loaded, extended, stores, byte_stored, half_stored, word_stored, instruction_at, started, outcome, bytes_after}
use Rattle.rv_machine.specs.Access.{Access, access, accessed, access_of, next_access, IsAccessed, AgreeIn, Fills}

-- ---- what is stored is the whole access

Fills-jumps : (a : Option Access) (writable : ℕ → Bool) (m : Machine) (rd target : ℕ) → Fills a writable (jumps m rd target)
unfolding jumps
Fills-jumps a writable m rd target =
    cond_both (eqb (target % 4) 0) (Goes target (write m.x rd (next m)) Nothing) (Fails Misaligned) (Fills a writable) (λ _. tt) (λ _. tt)

Fills-branches : (a : Option Access) (writable : ℕ → Bool) (m : Machine) (imm : ℤ) (taken : Bool) → Fills a writable (branches m imm taken)
unfolding branches passes
Fills-branches a writable m imm true =
    cond_both (eqb (relative m imm % 4) 0) (Goes (relative m imm) m.x Nothing) (Fails Misaligned) (Fills a writable) (λ _. tt) (λ _. tt)
Fills-branches a writable m imm false = tt

Fills-loads : (a : Option Access) (writable : ℕ → Bool) (m : Machine) (rd : ℕ) (loaded : Result ℕ FaultKind) → Fills a writable (loads m rd loaded)
unfolding loads sets
Fills-loads a writable m rd (Ok value) = tt
Fills-loads a writable m rd (Err kind) = tt

Fills-byte : (m : Machine) (at value : ℕ) → Fills (access at 1) m.writable (byte_stored m at value)
unfolding byte_stored
Fills-byte m at value =
    cond_both (m.writable at) (Goes (next m) m.x (Byte at (value % 2 ^ 8))) (Fails Store) (Fills (access at 1) m.writable)
    (λ may. (refl, may))
    (λ _. tt)

Fills-half : (m : Machine) (at value : ℕ) → Fills (access at 2) m.writable (half_stored m at value)
unfolding half_stored
Fills-half m at value =
    let goes = Goes (next m) m.x (Half at (value % 2 ^ 16)) in
    cond_both (eqb (at % 2) 0) (stores m (half_is_writable m.writable at) (Half at (value % 2 ^ 16))) (Fails Misaligned) (Fills (access at 2) m.writable)
    (λ aligned. cond_both (half_is_writable m.writable at) goes (Fails Store) (Fills (access at 2) m.writable)
    (λ may. (refl, eqb-true (at % 2) 0 aligned, may))
    (λ _. tt))
    (λ _. tt)

Fills-word : (m : Machine) (at value : ℕ) → Fills (access at 4) m.writable (word_stored m at value)
unfolding word_stored
Fills-word m at value =
    let goes = Goes (next m) m.x (Word at value) in
    cond_both (eqb (at % 4) 0) (stores m (word_is_writable m.writable at) (Word at value)) (Fails Misaligned) (Fills (access at 4) m.writable)
    (λ aligned. cond_both (word_is_writable m.writable at) goes (Fails Store) (Fills (access at 4) m.writable)
    (λ may. (refl, eqb-true (at % 4) 0 aligned, may))
    (λ _. tt))
    (λ _. tt)

Fills-effect : (instr : Instr) (m : Machine) → Fills (accessed instr m) m.writable (effect instr m)
unfolding effect accessed sets passes
Fills-effect (Jal rd imm) m = Fills-jumps _ _ m rd _
Fills-effect (Jalr rd rs1 imm) m = Fills-jumps _ _ m rd _
Fills-effect (Beq rs1 rs2 imm) m = Fills-branches _ _ m imm _
Fills-effect (Bne rs1 rs2 imm) m = Fills-branches _ _ m imm _
Fills-effect (Blt rs1 rs2 imm) m = Fills-branches _ _ m imm _
Fills-effect (Bge rs1 rs2 imm) m = Fills-branches _ _ m imm _
Fills-effect (Bltu rs1 rs2 imm) m = Fills-branches _ _ m imm _
Fills-effect (Bgeu rs1 rs2 imm) m = Fills-branches _ _ m imm _
Fills-effect (Lb rd rs1 imm) m = Fills-loads _ _ m rd _
Fills-effect (Lh rd rs1 imm) m = Fills-loads _ _ m rd _
Fills-effect (Lw rd rs1 imm) m = Fills-loads _ _ m rd _
Fills-effect (Lbu rd rs1 imm) m = Fills-loads _ _ m rd _
Fills-effect (Lhu rd rs1 imm) m = Fills-loads _ _ m rd _
Fills-effect (Sb rs1 rs2 imm) m = Fills-byte m (address m rs1 imm) (read m.x rs2)
Fills-effect (Sh rs1 rs2 imm) m = Fills-half m (address m rs1 imm) (read m.x rs2)
Fills-effect (Sw rs1 rs2 imm) m = Fills-word m (address m rs1 imm) (read m.x rs2)
Fills-effect _ m = tt

Fills-started : (fetched : Result Instr FaultKind) (m : Machine) → Fills (access_of fetched m) m.writable (started fetched m)
unfolding started
Fills-started (Ok instr) m = Fills-effect instr m
Fills-started (Err kind) m = tt

pub Fills-outcome : (code : List ℕ) (m : Machine) → Fills (next_access code m) m.writable (outcome code m)
unfolding outcome next_access
Fills-outcome code m = Fills-started (instruction_at code m.pc) m

-- ---- no other byte changes

put_byte-other : (bytes : ℕ → Option ℕ) (address value at : ℕ) → at ≢ address → put_byte bytes address value at ≡ bytes at
unfolding put_byte
put_byte-other bytes address value at apart = cond-false (eqb at address) (replaced (bytes at) value) (bytes at) (ne_eqb at address apart)

with_half-other : (bytes : ℕ → Option ℕ) (address value at : ℕ) → ¬ IsAccessed (access address 2) at → with_half put_byte bytes address value at ≡ bytes at
unfolding with_half
with_half-other bytes address value at out =
    put_byte-other (put_byte bytes address (value % 2 ^ 8)) (address + 1) (value / 2 ^ 8) at (λ same. out (omega arith, omega arith))
    ∙ put_byte-other bytes address (value % 2 ^ 8) at (λ same. out (omega arith, omega arith))

with_word-other : (bytes : ℕ → Option ℕ) (address value at : ℕ) → ¬ IsAccessed (access address 4) at → with_word put_byte bytes address value at ≡ bytes at
unfolding with_word
with_word-other bytes address value at out =
    with_half-other (with_half put_byte bytes address (value % 2 ^ 16)) (address + 2) (value / 2 ^ 16) at (λ within. out (omega arith, omega arith))
    ∙ with_half-other bytes address (value % 2 ^ 16) at (λ within. out (omega arith, omega arith))

stays : (a : Option Access) (writable : ℕ → Bool) (bytes : ℕ → Option ℕ) (at : ℕ) (o : Outcome) → Fills a writable o → ¬ IsAccessed a at → bytes_after o bytes at ≡ bytes at
stays a writable bytes at (Goes pc x (Byte place value)) fills out =
    let other : ¬ IsAccessed (access place 1) at = subst (λ a. ¬ IsAccessed a at) fills.0 out in
    put_byte-other bytes place value at (λ same. other (omega arith, omega arith))
stays a writable bytes at (Goes pc x (Half place value)) fills out =
    with_half-other bytes place value at (subst (λ a. ¬ IsAccessed a at) fills.0 out)
stays a writable bytes at (Goes pc x (Word place value)) fills out =
    with_word-other bytes place value at (subst (λ a. ¬ IsAccessed a at) fills.0 out)
stays a writable bytes at _ fills out = refl

pub bytes_after-outcome : (code : List ℕ) (m : Machine) (at : ℕ) → ¬ IsAccessed (next_access code m) at → bytes_after (outcome code m) m.bytes at ≡ m.bytes at
bytes_after-outcome code m at out = stays (next_access code m) m.writable m.bytes at (outcome code m) (Fills-outcome code m) out

-- ---- no other byte is looked at

abbrev of_parts : ℕ → List ℕ → (ℕ → Option ℕ) → (ℕ → Bool) → Machine
of_parts pc x bytes writable = record { pc = pc; x = x; bytes = bytes; writable = writable }

loads-parts : (pc : ℕ) (x : List ℕ) (bytes bytes' : ℕ → Option ℕ) (writable writable' : ℕ → Bool) (rd : ℕ) (loaded : Result ℕ FaultKind) → loads (of_parts pc x bytes writable) rd loaded ≡ loads (of_parts pc x bytes' writable') rd loaded
unfolding loads sets
loads-parts pc x bytes bytes' writable writable' rd (Ok value) = refl
loads-parts pc x bytes bytes' writable writable' rd (Err kind) = refl

loads-same : (pc : ℕ) (x : List ℕ) (bytes bytes' : ℕ → Option ℕ) (writable writable' : ℕ → Bool) (rd : ℕ) (loaded loaded' : Result ℕ FaultKind) → loaded ≡ loaded' → loads (of_parts pc x bytes writable) rd loaded ≡ loads (of_parts pc x bytes' writable') rd loaded'
loads-same pc x bytes bytes' writable writable' rd loaded loaded' same =
    loads-parts pc x bytes bytes' writable writable' rd loaded ∙ ap (loads (of_parts pc x bytes' writable') rd) same

byte_loaded-same : (bytes bytes' : ℕ → Option ℕ) (at : ℕ) → bytes at ≡ bytes' at → byte_loaded bytes at ≡ byte_loaded bytes' at
unfolding byte_loaded
byte_loaded-same bytes bytes' at same = ap found same

half_at-same : (bytes bytes' : ℕ → Option ℕ) (at : ℕ) → bytes at ≡ bytes' at → bytes (at + 1) ≡ bytes' (at + 1) → half_at bytes at ≡ half_at bytes' at
unfolding half_at
half_at-same bytes bytes' at low high = λ i. joined (2 ^ 8) (low i) (high i)

half_loaded-same : (bytes bytes' : ℕ → Option ℕ) (at : ℕ) → half_at bytes at ≡ half_at bytes' at → half_loaded bytes at ≡ half_loaded bytes' at
unfolding half_loaded
half_loaded-same bytes bytes' at same = ap (λ half. Rattle.std.proofs.Common.cond (eqb (at % 2) 0) (found half) (Err Misaligned)) same

word_loaded-same : (bytes bytes' : ℕ → Option ℕ) (at : ℕ) → half_at bytes at ≡ half_at bytes' at → half_at bytes (at + 2) ≡ half_at bytes' (at + 2) → word_loaded bytes at ≡ word_loaded bytes' at
unfolding word_loaded word_at
word_loaded-same bytes bytes' at low high = λ i. Rattle.std.proofs.Common.cond (eqb (at % 4) 0) (found (joined (2 ^ 16) (low i) (high i))) (Err Misaligned)

half_is_writable-same : (writable writable' : ℕ → Bool) (at : ℕ) → writable at ≡ writable' at → writable (at + 1) ≡ writable' (at + 1) → half_is_writable writable at ≡ half_is_writable writable' at
unfolding half_is_writable
half_is_writable-same writable writable' at low high = λ i. low i && high i

word_is_writable-same : (writable writable' : ℕ → Bool) (at : ℕ) → half_is_writable writable at ≡ half_is_writable writable' at → half_is_writable writable (at + 2) ≡ half_is_writable writable' (at + 2) → word_is_writable writable at ≡ word_is_writable writable' at
unfolding word_is_writable
word_is_writable-same writable writable' at low high = λ i. low i && high i

effect-same : (pc : ℕ) (x : List ℕ) (bytes bytes' : ℕ → Option ℕ) (writable writable' : ℕ → Bool) (instr : Instr) →
    AgreeIn (accessed instr (of_parts pc x bytes writable)) (of_parts pc x bytes writable) (of_parts pc x bytes' writable') →
    effect instr (of_parts pc x bytes writable) ≡ effect instr (of_parts pc x bytes' writable')
unfolding effect accessed sets passes jumps branches byte_stored half_stored word_stored
effect-same pc x bytes bytes' writable writable' (Lb rd rs1 imm) agree =
    let at = address (of_parts pc x bytes writable) rs1 imm in
    loads-same pc x bytes bytes' writable writable' rd _ _ (ap (extended 8) (byte_loaded-same bytes bytes' at (agree at (omega arith, omega arith)).0))
effect-same pc x bytes bytes' writable writable' (Lh rd rs1 imm) agree =
    let at = address (of_parts pc x bytes writable) rs1 imm in
    let half = half_at-same bytes bytes' at (agree at (omega arith, omega arith)).0 (agree (at + 1) (omega arith, omega arith)).0 in
    loads-same pc x bytes bytes' writable writable' rd _ _ (ap (extended 16) (half_loaded-same bytes bytes' at half))
effect-same pc x bytes bytes' writable writable' (Lw rd rs1 imm) agree =
    let at = address (of_parts pc x bytes writable) rs1 imm in
    let low = half_at-same bytes bytes' at (agree at (omega arith, omega arith)).0 (agree (at + 1) (omega arith, omega arith)).0 in
    let high = half_at-same bytes bytes' (at + 2) (agree (at + 2) (omega arith, omega arith)).0 (agree (at + 2 + 1) (omega arith, omega arith)).0 in
    loads-same pc x bytes bytes' writable writable' rd _ _ (word_loaded-same bytes bytes' at low high)
effect-same pc x bytes bytes' writable writable' (Lbu rd rs1 imm) agree =
    let at = address (of_parts pc x bytes writable) rs1 imm in
    loads-same pc x bytes bytes' writable writable' rd _ _ (byte_loaded-same bytes bytes' at (agree at (omega arith, omega arith)).0)
effect-same pc x bytes bytes' writable writable' (Lhu rd rs1 imm) agree =
    let at = address (of_parts pc x bytes writable) rs1 imm in
    let half = half_at-same bytes bytes' at (agree at (omega arith, omega arith)).0 (agree (at + 1) (omega arith, omega arith)).0 in
    loads-same pc x bytes bytes' writable writable' rd _ _ (half_loaded-same bytes bytes' at half)
effect-same pc x bytes bytes' writable writable' (Sb rs1 rs2 imm) agree =
    let m = of_parts pc x bytes writable in
    let at = address m rs1 imm in
    ap (λ (may : Bool). stores m may (Byte at (read x rs2 % 2 ^ 8))) (agree at (omega arith, omega arith)).1
effect-same pc x bytes bytes' writable writable' (Sh rs1 rs2 imm) agree =
    let m = of_parts pc x bytes writable in
    let at = address m rs1 imm in
    let half = half_is_writable-same writable writable' at (agree at (omega arith, omega arith)).1 (agree (at + 1) (omega arith, omega arith)).1 in
    ap (λ (may : Bool). Rattle.std.proofs.Common.cond (eqb (at % 2) 0) (stores m may (Half at (read x rs2 % 2 ^ 16))) (Fails Misaligned)) half
effect-same pc x bytes bytes' writable writable' (Sw rs1 rs2 imm) agree =
    let m = of_parts pc x bytes writable in
    let at = address m rs1 imm in
    let low = half_is_writable-same writable writable' at (agree at (omega arith, omega arith)).1 (agree (at + 1) (omega arith, omega arith)).1 in
    let high = half_is_writable-same writable writable' (at + 2) (agree (at + 2) (omega arith, omega arith)).1 (agree (at + 2 + 1) (omega arith, omega arith)).1 in
    ap (λ (may : Bool). Rattle.std.proofs.Common.cond (eqb (at % 4) 0) (stores m may (Word at (read x rs2))) (Fails Misaligned)) (word_is_writable-same writable writable' at low high)
effect-same pc x bytes bytes' writable writable' _ agree = refl

started-same : (pc : ℕ) (x : List ℕ) (bytes bytes' : ℕ → Option ℕ) (writable writable' : ℕ → Bool) (fetched : Result Instr FaultKind) →
    AgreeIn (access_of fetched (of_parts pc x bytes writable)) (of_parts pc x bytes writable) (of_parts pc x bytes' writable') →
    started fetched (of_parts pc x bytes writable) ≡ started fetched (of_parts pc x bytes' writable')
unfolding started
started-same pc x bytes bytes' writable writable' (Ok instr) agree = effect-same pc x bytes bytes' writable writable' instr agree
started-same pc x bytes bytes' writable writable' (Err kind) agree = refl

pub outcome-same : (code : List ℕ) (m other : Machine) → m.pc ≡ other.pc → m.x ≡ other.x → AgreeIn (next_access code m) m other → outcome code m ≡ outcome code other
unfolding outcome next_access
outcome-same code m other same_pc same_x agree =
    started-same m.pc m.x m.bytes other.bytes m.writable other.writable (instruction_at code m.pc) agree
    ∙ (λ i. started (instruction_at code (same_pc i)) (of_parts (same_pc i) (same_x i) other.bytes other.writable))
