-- What is fetched at a place of the code.
use Rattle.segment_run.proofs.Common.{◌≡◌, ℕ, zero, suc, ◌-◌, ◌/◌, ◌%◌, ◌≤◌, List, [], ◌∷◌, length, refl, arith, Option, Some, None, Ok, Err, ap, sym, ◌∙◌, slice_get, ◌==◌, nat_lt, cond-true, cond-false, le-ltb, eq-eqb, Instr, decoding, code_start, code_word, decoded, fetched, instruction_at}
use Rattle.cap_word.specs.declared.faults.FaultKind.TheVariants.{Misaligned}

pub fetched_at : (code : List ℕ) (pc : ℕ) (found : Option ℕ) → pc % 4 ≡ 0 → 4096 ≤ pc → slice_get code ((pc - 4096) / 4) ≡ found → instruction_at code pc ≡ fetched found
unfolding instruction_at
fetched_at code pc found aligned low is =
    cond-true (pc % 4 == 0) (fetched (code_word code pc)) (Err Misaligned) (eq-eqb (pc % 4) 0 aligned)
    ∙ ap fetched (cond-false (nat_lt pc code_start) None (slice_get code ((pc - code_start) / 4)) (le-ltb pc code_start low) ∙ is)

of_decoded : (found : Option Instr) → decoded found ≡ Ok Instr.Ecall → found ≡ Some Instr.Ecall
of_decoded None e = absurd (cc)
of_decoded (Some instr) e = let same : instr ≡ Instr.Ecall = cc in ap Some same

pub ecall_read : (code : List ℕ) (pc word : ℕ) (found : Option Instr) → pc % 4 ≡ 0 → 4096 ≤ pc → slice_get code ((pc - 4096) / 4) ≡ Some word → found ≡ decoding word
    → (instruction_at code pc ≡ Ok Instr.Ecall → found ≡ Some Instr.Ecall) × (found ≡ Some Instr.Ecall → instruction_at code pc ≡ Ok Instr.Ecall)
ecall_read code pc word found aligned low there is =
    let here = fetched_at code pc (Some word) aligned low there in
    ((λ e. of_decoded found (ap decoded is ∙ sym here ∙ e)), (λ e. here ∙ ap decoded (sym is ∙ e)))

pub none_read : (code : List ℕ) (pc : ℕ) → pc % 4 ≡ 0 → 4096 ≤ pc → slice_get code ((pc - 4096) / 4) ≡ None → instruction_at code pc ≡ Ok Instr.Ecall → ⊥
none_read code pc aligned low there e = let both = sym (fetched_at code pc None aligned low there) ∙ e in cc

get_past : (code : List ℕ) (i : ℕ) → length code ≤ i → slice_get code i ≡ None
get_past [] i past = refl
get_past (word ∷ code) zero past = absurd (omega arith)
get_past (word ∷ code) (suc i) past = get_past code i (omega arith)

pub past_code : (code : List ℕ) (pc : ℕ) → pc % 4 ≡ 0 → 4096 ≤ pc → length code ≤ (pc - 4096) / 4 → instruction_at code pc ≡ Ok Instr.Ecall → ⊥
past_code code pc aligned low past = none_read code pc aligned low (get_past code ((pc - 4096) / 4) past)
