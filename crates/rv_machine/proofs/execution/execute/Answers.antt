-- Jumps and branches leave the memory.
use Rattle.rv_machine.proofs.Common.{ℕ, Option, true, ap, put_byte, machine}
use Rattle.rv_machine.specs.RowEffect.{row_effect}
use Rattle.rv_machine.proofs.Quiet.{memory_after-jumps, memory_after-branches}
use Rattle.rv_machine.proofs.execution.execute.Goals as goal

pub returns-in-Jumps-clause-bytes : goal.returns-in-Jumps-clause-bytes
unfolding row_effect
returns-in-Jumps-clause-bytes g c =
    let m = (machine c.args.regs.now (g.M.Memory.byte_at c.args.memory.now) (g.M.Memory.is_writable c.args.memory.now)) in
    λ at. rw c.in-Jumps.is (ap (λ (bytes : ℕ → Option ℕ). bytes at) (memory_after-jumps put_byte m.bytes m c.in-Jumps.rd c.in-Jumps.target))

pub returns-in-Jumps-clause-whole : goal.returns-in-Jumps-clause-whole
unfolding row_effect
returns-in-Jumps-clause-whole g c =
    let m = (machine c.args.regs.now (g.M.Memory.byte_at c.args.memory.now) (g.M.Memory.is_writable c.args.memory.now)) in
    rw c.in-Jumps.is (memory_after-jumps g.M.Memory.with_byte c.args.memory.now m c.in-Jumps.rd c.in-Jumps.target)

pub returns-in-Branches-clause-bytes : goal.returns-in-Branches-clause-bytes
unfolding row_effect
returns-in-Branches-clause-bytes g c =
    let m = (machine c.args.regs.now (g.M.Memory.byte_at c.args.memory.now) (g.M.Memory.is_writable c.args.memory.now)) in
    λ at. rw c.in-Branches.is (ap (λ (bytes : ℕ → Option ℕ). bytes at) (memory_after-branches put_byte m.bytes m c.in-Branches.imm true))

pub returns-in-Branches-clause-whole : goal.returns-in-Branches-clause-whole
unfolding row_effect
returns-in-Branches-clause-whole g c =
    let m = (machine c.args.regs.now (g.M.Memory.byte_at c.args.memory.now) (g.M.Memory.is_writable c.args.memory.now)) in
    rw c.in-Branches.is (memory_after-branches g.M.Memory.with_byte c.args.memory.now m c.in-Branches.imm true)
