-- The rows that store nothing leave every memory.
use Rattle.rv_machine.proofs.Common.{◌≡◌, ℕ, ◌%◌, Bool, true, false, eqb, ℤ, refl, cond_both, Misaligned, Nothing, write, Machine, Goes, Fails, next, relative, passes, jumps, branches, memory_after}

pub memory_after-jumps : {S : Type 0} (put : S → ℕ → ℕ → S) (memory : S) (m : Machine) (rd target : ℕ) → memory ≡ memory_after put (jumps m rd target) memory
unfolding jumps
memory_after-jumps put memory m rd target =
    cond_both (eqb (target % 4) 0) (Goes target (write m.x rd (next m)) Nothing) (Fails Misaligned)
    (λ outcome. memory ≡ memory_after put outcome memory)
    (λ _. refl)
    (λ _. refl)

pub memory_after-branches : {S : Type 0} (put : S → ℕ → ℕ → S) (memory : S) (m : Machine) (imm : ℤ) (taken : Bool) → memory ≡ memory_after put (branches m imm taken) memory
unfolding branches passes
memory_after-branches put memory m imm true =
    cond_both (eqb (relative m imm % 4) 0) (Goes (relative m imm) m.x Nothing) (Fails Misaligned)
    (λ outcome. memory ≡ memory_after put outcome memory)
    (λ _. refl)
    (λ _. refl)
memory_after-branches put memory m imm false = refl
