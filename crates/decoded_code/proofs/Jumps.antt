-- Jumps and branches to the word of an index.
use Rattle.decoded_code.proofs.Common.{◌≡◌, ℕ, ◌%◌, Bool, true, false, eqb, ℤ, refl, sym, ap, ◌∙◌, arith, cond-true, eq-eqb, place_at, branches_to, Nothing, write, Machine, Goes, Fails, next, relative, jumps, branches}
use Rattle.cap_word.specs.declared.faults.FaultKind.TheVariants.{Misaligned}

aligned : (at target : ℕ) → place_at at ≡ target → eqb (target % 4) 0 ≡ true
aligned at target is = eq-eqb (target % 4) 0 (omega (arith, is))

pub jumps_at : (m : Machine) (rd at target : ℕ) → place_at at ≡ target → jumps m rd target ≡ Goes (place_at at) (write m.x rd (next m)) Nothing
unfolding jumps
jumps_at m rd at target is =
    cond-true (eqb (target % 4) 0) (Goes target (write m.x rd (next m)) Nothing) (Fails Misaligned) (aligned at target is)
    ∙ ap (λ (pc : ℕ). Goes pc (write m.x rd (next m)) Nothing) (sym is)

pub branches_at : (m : Machine) (imm : ℤ) (at : ℕ) (taken : Bool) → place_at at ≡ relative m imm → branches m imm taken ≡ branches_to m at taken
unfolding branches
branches_at m imm at true is =
    cond-true (eqb (relative m imm % 4) 0) (Goes (relative m imm) m.x Nothing) (Fails Misaligned) (aligned at (relative m imm) is)
    ∙ ap (λ (pc : ℕ). Goes pc m.x Nothing) (sym is)
branches_at m imm at false is = refl
