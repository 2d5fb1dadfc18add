-- The names that this crate's proofs cite from other crates and from its definitions, passed on from one place. Declares nothing.
pub use Rattle.std.proofs.Common.{◌%◌, ◌*◌, ◌+◌, ◌/◌, ◌<◌, ◌^◌, ◌∙◌, ◌≡◌, ◌≢◌, ◌≤◌, All, Bool, Err, List, None, Ok, Option, Result, Some, ap, arith, cond, eqb, false, get_or, get_or-set_other, get_or-set_same, length, lit<, refl, set, subst, suc, sym, true, zero, ℕ, ℤ, ⊎_elim}
pub use Rattle.std.proofs.lemmas.Bool.{and_parts, cases_eq, cases_lt, cond-false, cond-true, cond_both, eq-eqb, eqb-true, ne_eqb}
pub use Rattle.std.proofs.lemmas.List.{get_or_past, length-set, set-set, set_past}
pub use Rattle.std.specs.Prelude.{IfOk, IfSome, slice_get, ◌&&◌}
pub use Rattle.cap_word.specs.declared.faults.FaultKind.{FaultKind}
pub use Rattle.cap_word.specs.declared.faults.FaultKind.TheVariants.{Misaligned, Store}
pub use Rattle.rv_code.specs.declared.instructions.Instr.{Instr}
pub use Rattle.rv_code.specs.declared.instructions.Instr.TheVariants.{Add, Addi, And, Andi, Auipc, Beq, Bge, Bgeu, Blt, Bltu, Bne, Div, Divu, Ebreak, Ecall, Fence, Jal, Jalr, Lb, Lbu, Lh, Lhu, Lui, Lw, Mul, Mulh, Mulhsu, Mulhu, Or, Ori, Rem, Remu, Sb, Sh, Sll, Slli, Slt, Slti, Sltiu, Sltu, Sra, Srai, Srl, Srli, Sub, Sw, Xor, Xori}
pub use Rattle.rv_machine.specs.Bytes.{Byte, Half, Nothing, Stored, Word, joined, replaced, with_stored}
unfoldable pub use Rattle.rv_machine.specs.Bytes.{half_at, half_is_writable, put_byte, with_half, with_word, word_at, word_is_writable}
pub use Rattle.rv_machine.specs.Effect.{upper}
unfoldable pub use Rattle.rv_machine.specs.Effect.{effect}
pub use Rattle.rv_machine.specs.Registers.{read, write}
pub use Rattle.rv_machine.specs.Rows.{Fails, Goes, Machine, Outcome, address, found, next, relative, stores}
unfoldable pub use Rattle.rv_machine.specs.Rows.{branches, byte_loaded, byte_stored, extended, half_loaded, half_stored, jumps, loads, passes, sets, word_loaded, word_stored}
pub use Rattle.rv_machine.specs.Step.{bytes_after, instruction_at, machine, machine_after, memory_after}
unfoldable pub use Rattle.rv_machine.specs.Step.{outcome, started}
