-- The parts of templates, as lists of instructions. `[x]` in the comments is the word of variable x in the frame,
-- `place(x)(sp)`.
use Rattle.std.specs.Prelude.{ℕ, zero, suc, ◌+◌, ◌/◌, ◌%◌, ◌^◌, ℤ, pos, ◌-ℤ◌, List, [], ◌∷◌, ◌++◌, slice_index, Option, Some, None}
use Rattle.rv_code.specs.Field.{signed}
use Rattle.rv_code.specs.declared.instructions.Instr.{Instr}
use Rattle.flat_code.specs.declared.operators.BinOp.{BinOp}
use Rattle.stack_certificate.specs.declared.functions.FunctionFact.{FunctionFact}
use Rattle.stack_certificate.specs.declared.sites.LinkKind.{LinkKind}
use Rattle.stack_certificate.specs.Registers.{zero_, ra, sp, tp, t0, t1, t2, a0, a7}
use Rattle.stack_certificate.specs.RunTimeCalls.{link_number, unlink_number, trap_number}

-- li r, v: the upper part, rounded so that the low 12 bits can be added as a signed number
abbrev pub upper_part : ℕ → ℕ
upper_part v = (v + 2048) / 4096 % 2 ^ 20

abbrev pub lower_part : ℕ → ℤ
lower_part v = signed 12 (v % 2 ^ 12)

abbrev pub li : ℕ → ℕ → List Instr
li r v = Instr.Lui r (pos (upper_part v)) ∷ Instr.Addi r r (lower_part v) ∷ []

-- lw r, [x]
abbrev pub load : FunctionFact → ℕ → ℕ → Instr
load fact r x = Instr.Lw r sp (pos (slice_index fact.places x))

-- sw r, [x]
abbrev pub store : FunctionFact → ℕ → ℕ → Instr
store fact r x = Instr.Sw sp r (pos (slice_index fact.places x))

-- addi a7, x0, n; ecall
abbrev pub system_call : ℕ → List Instr
system_call n = Instr.Addi a7 zero_ (pos n) ∷ Instr.Ecall ∷ []

-- guard(i, n, kind): lw t0, [i]; li t1, n; bltu t0, t1, +16; addi a0, x0, kind; addi a7, x0, 31; ecall
abbrev pub guard : FunctionFact → ℕ → ℕ → ℕ → List Instr
guard fact i n kind =
    load fact t0 i ∷ li t1 n ++ (Instr.Bltu t0 t1 (pos 16) ∷ Instr.Addi a0 zero_ (pos kind) ∷ system_call trap_number)

-- an operator on t0 and t1, in t0
abbrev pub middle : BinOp → List Instr
middle BinOp.Add = Instr.Add t0 t0 t1 ∷ []
middle BinOp.Subtract = Instr.Sub t0 t0 t1 ∷ []
middle BinOp.Multiply = Instr.Mul t0 t0 t1 ∷ []
middle BinOp.Divide = Instr.Div t0 t0 t1 ∷ []
middle BinOp.Remainder = Instr.Rem t0 t0 t1 ∷ []
middle BinOp.BitAnd = Instr.And t0 t0 t1 ∷ []
middle BinOp.BitOr = Instr.Or t0 t0 t1 ∷ []
middle BinOp.BitXor = Instr.Xor t0 t0 t1 ∷ []
middle BinOp.ShiftLeft = Instr.Sll t0 t0 t1 ∷ []
middle BinOp.ShiftRight = Instr.Sra t0 t0 t1 ∷ []
middle BinOp.Less = Instr.Slt t0 t0 t1 ∷ []
middle BinOp.Greater = Instr.Slt t0 t1 t0 ∷ []
middle BinOp.LessOrEqual = Instr.Slt t0 t1 t0 ∷ Instr.Xori t0 t0 (pos 1) ∷ []
middle BinOp.GreaterOrEqual = Instr.Slt t0 t0 t1 ∷ Instr.Xori t0 t0 (pos 1) ∷ []
middle BinOp.Equal = Instr.Sub t0 t0 t1 ∷ Instr.Sltiu t0 t0 (pos 1) ∷ []
middle BinOp.NotEqual = Instr.Sub t0 t0 t1 ∷ Instr.Sltu t0 zero_ t0 ∷ []

-- sw x0, place(a)+4j(sp) for each word of an array, from word j on
abbrev pub zeroes : ℕ → ℕ → List Instr
zeroes place zero = []
zeroes place (suc n) = Instr.Sw sp zero_ (pos place) ∷ zeroes (place + 4) n

-- lw a0, [..]; .. for each argument, from argument register r on
abbrev pub arguments : FunctionFact → ℕ → List ℕ → List Instr
arguments fact r [] = []
arguments fact r (x ∷ xs) = load fact r x ∷ arguments fact (r + 1) xs

-- sw a0, [d], if the result is used
abbrev pub result : FunctionFact → Option ℕ → List Instr
result fact None = []
result fact (Some d) = store fact a0 d ∷ []

-- a jump from one address to another, which sets register r to the address after it
abbrev pub jump : ℕ → ℕ → ℕ → Instr
jump r to from = Instr.Jal r (pos to -ℤ pos from)

-- a call instruction at an address: of the function at an entry, or through t2 if there is none
abbrev pub call_instruction : Option ℕ → ℕ → Instr
call_instruction (Some entry) from = jump ra entry from
call_instruction None from = Instr.Jalr ra t2 (pos 0)

-- the transfer of a call instruction j at an address: j itself at a plain site. At a linked site: li t1, need;
-- sub t0, sp, t1; bltu t0, tp, +12; j; jal x0, +24; addi a7, x0, 1; ecall; j; addi a7, x0, 2; ecall
abbrev pub transfer : LinkKind → Option ℕ → ℕ → List Instr
transfer LinkKind.Plain callee here = call_instruction callee here ∷ []
transfer (LinkKind.Linked need) callee here =
    li t1 need ++ (
    Instr.Sub t0 sp t1 ∷ Instr.Bltu t0 tp (pos 12) ∷ call_instruction callee (here + 16) ∷ Instr.Jal zero_ (pos 24) ∷
    Instr.Addi a7 zero_ (pos link_number) ∷ Instr.Ecall ∷ call_instruction callee (here + 32) ∷ system_call unlink_number)
transfer (LinkKind.Spawned need) callee here = call_instruction callee here ∷ []

-- sw a0, [0]; .. for this number of parameters, from parameter k on, which is in register r
abbrev pub saves : FunctionFact → ℕ → ℕ → ℕ → List Instr
saves fact r k zero = []
saves fact r k (suc n) = store fact r k ∷ saves fact (r + 1) (k + 1) n

-- lw ra, ra(sp); addi sp, sp, frame; jalr x0, 0(ra)
abbrev pub epilogue : FunctionFact → List Instr
epilogue fact = Instr.Lw ra sp (pos fact.ra) ∷ Instr.Addi sp sp (pos fact.frame) ∷ Instr.Jalr zero_ ra (pos 0) ∷ []
