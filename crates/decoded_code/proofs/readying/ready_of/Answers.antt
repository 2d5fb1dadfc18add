use Rattle.cap_word.specs.Word as word
use Rattle.decoded_code.proofs.Common.{ℕ, not, eqb, ltb, bit_xor, Some, sym, ap, ◌∙◌, Instr, effect, read, sets, loads, jumps, word_loaded, word_stored, done, even}
use Rattle.decoded_code.proofs.Jumps.{branches_at}
use Rattle.decoded_code.proofs.readying.ready_of.Goals as goal

pub returns-in-Lui : goal.returns-in-Lui
unfolding done effect
returns-in-Lui c =
    c.writing.ensures c.args.place c.args.instr (λ m at. ap (λ (i : Instr). effect i m) c.in-Lui.is ∙ ap (λ (w : ℕ). sets m c.in-Lui.rd w) (sym c.upper_word.ensures))

pub returns-in-Addi : goal.returns-in-Addi
unfolding done effect
returns-in-Addi c =
    c.writing-in-Addi.ensures c.args.place c.args.instr (λ m at. ap (λ (i : Instr). effect i m) c.in-Addi.is ∙ ap (λ (w : ℕ). sets m c.in-Addi.rd (word.add (read m.x c.in-Addi.rs1) w)) (sym c.constant.ensures))

pub returns-in-Sltiu : goal.returns-in-Sltiu
unfolding done effect
returns-in-Sltiu c =
    c.writing-in-Sltiu.ensures c.args.place c.args.instr (λ m at. ap (λ (i : Instr). effect i m) c.in-Sltiu.is ∙ ap (λ (w : ℕ). sets m c.in-Sltiu.rd (word.sltu (read m.x c.in-Sltiu.rs1) w)) (sym c.constant-in-Sltiu.ensures))

pub returns-in-Xori : goal.returns-in-Xori
unfolding done effect
returns-in-Xori c =
    c.writing-in-Xori.ensures c.args.place c.args.instr (λ m at. ap (λ (i : Instr). effect i m) c.in-Xori.is ∙ ap (λ (w : ℕ). sets m c.in-Xori.rd (bit_xor (read m.x c.in-Xori.rs1) w)) (sym c.constant-in-Xori.ensures))

pub returns-in-Slli : goal.returns-in-Slli
unfolding done effect
returns-in-Slli c =
    c.writing-in-Slli.ensures c.args.place c.args.instr (λ m at. ap (λ (i : Instr). effect i m) c.in-Slli.is ∙ ap (λ (w : ℕ). sets m c.in-Slli.rd (word.sll (read m.x c.in-Slli.rs1) w)) (sym c.count.ensures))

pub returns-in-Add : goal.returns-in-Add
unfolding done effect
returns-in-Add c =
    c.writing-in-Add.ensures c.args.place c.args.instr (λ m at. ap (λ (i : Instr). effect i m) c.in-Add.is)

pub returns-in-Sub : goal.returns-in-Sub
unfolding done effect
returns-in-Sub c =
    c.writing-in-Sub.ensures c.args.place c.args.instr (λ m at. ap (λ (i : Instr). effect i m) c.in-Sub.is)

pub returns-in-Sll : goal.returns-in-Sll
unfolding done effect
returns-in-Sll c =
    c.writing-in-Sll.ensures c.args.place c.args.instr (λ m at. ap (λ (i : Instr). effect i m) c.in-Sll.is)

pub returns-in-Slt : goal.returns-in-Slt
unfolding done effect
returns-in-Slt c =
    c.writing-in-Slt.ensures c.args.place c.args.instr (λ m at. ap (λ (i : Instr). effect i m) c.in-Slt.is)

pub returns-in-Sltu : goal.returns-in-Sltu
unfolding done effect
returns-in-Sltu c =
    c.writing-in-Sltu.ensures c.args.place c.args.instr (λ m at. ap (λ (i : Instr). effect i m) c.in-Sltu.is)

pub returns-in-Xor : goal.returns-in-Xor
unfolding done effect
returns-in-Xor c =
    c.writing-in-Xor.ensures c.args.place c.args.instr (λ m at. ap (λ (i : Instr). effect i m) c.in-Xor.is)

pub returns-in-Sra : goal.returns-in-Sra
unfolding done effect
returns-in-Sra c =
    c.writing-in-Sra.ensures c.args.place c.args.instr (λ m at. ap (λ (i : Instr). effect i m) c.in-Sra.is)

pub returns-in-Or : goal.returns-in-Or
unfolding done effect
returns-in-Or c =
    c.writing-in-Or.ensures c.args.place c.args.instr (λ m at. ap (λ (i : Instr). effect i m) c.in-Or.is)

pub returns-in-And : goal.returns-in-And
unfolding done effect
returns-in-And c =
    c.writing-in-And.ensures c.args.place c.args.instr (λ m at. ap (λ (i : Instr). effect i m) c.in-And.is)

pub returns-in-Mul : goal.returns-in-Mul
unfolding done effect
returns-in-Mul c =
    c.writing-in-Mul.ensures c.args.place c.args.instr (λ m at. ap (λ (i : Instr). effect i m) c.in-Mul.is)

pub returns-in-Div : goal.returns-in-Div
unfolding done effect
returns-in-Div c =
    c.writing-in-Div.ensures c.args.place c.args.instr (λ m at. ap (λ (i : Instr). effect i m) c.in-Div.is)

pub returns-in-Rem : goal.returns-in-Rem
unfolding done effect
returns-in-Rem c =
    c.writing-in-Rem.ensures c.args.place c.args.instr (λ m at. ap (λ (i : Instr). effect i m) c.in-Rem.is)

pub returns-in-Lw : goal.returns-in-Lw
unfolding done effect
returns-in-Lw c =
    c.writing-in-Lw.ensures c.args.place c.args.instr (λ m at. ap (λ (i : Instr). effect i m) c.in-Lw.is ∙ ap (λ (w : ℕ). loads m c.in-Lw.rd (word_loaded m.bytes (word.add (read m.x c.in-Lw.rs1) w))) (sym c.constant-in-Lw.ensures))

pub returns-in-Sw : goal.returns-in-Sw
unfolding done effect
returns-in-Sw c =
    c.reading.ensures c.args.place c.args.instr (λ m at. ap (λ (i : Instr). effect i m) c.in-Sw.is ∙ ap (λ (w : ℕ). word_stored m (word.add (read m.x c.in-Sw.rs1) w) (read m.x c.in-Sw.rs2)) (sym c.constant-in-Sw.ensures))

pub returns-in-Jalr : goal.returns-in-Jalr
unfolding done effect
returns-in-Jalr c =
    c.jump.ensures c.args.place c.args.instr
    (λ zero m at. ap (λ (i : Instr). effect i m) c.in-Jalr.is ∙ ap (λ (w : ℕ). jumps m c.in-Jalr.rd (even (word.add (read m.x c.in-Jalr.rs1) w))) (sym c.constant-in-Jalr.ensures)
    ∙ ap (λ (r : ℕ). jumps m r (even (word.add (read m.x c.in-Jalr.rs1) c.constant-in-Jalr.result))) zero)
    (λ m at. ap (λ (i : Instr). effect i m) c.in-Jalr.is ∙ ap (λ (w : ℕ). jumps m c.in-Jalr.rd (even (word.add (read m.x c.in-Jalr.rs1) w))) (sym c.constant-in-Jalr.ensures))

pub returns-in-Bne : goal.returns-in-Bne
unfolding done effect
returns-in-Bne c =
    c.branch_of.ensures c.args.instr (λ m at pc to. ap (λ (i : Instr). effect i m) c.in-Bne.is ∙ branches_at m c.in-Bne.imm at (not (eqb (read m.x c.in-Bne.rs1) (read m.x c.in-Bne.rs2))) to)

pub returns-in-Bltu : goal.returns-in-Bltu
unfolding done effect
returns-in-Bltu c =
    c.branch_of-in-Bltu.ensures c.args.instr (λ m at pc to. ap (λ (i : Instr). effect i m) c.in-Bltu.is ∙ branches_at m c.in-Bltu.imm at (ltb (read m.x c.in-Bltu.rs1) (read m.x c.in-Bltu.rs2)) to)

pub returns-in_default : goal.returns-in_default
unfolding done effect
returns-in_default c =
    c.other.ensures c.args.place (Some c.args.instr)
