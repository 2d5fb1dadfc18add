-- The words of slots.
use Rattle.stack_certificate.proofs.Common.{◌≡◌, ℕ, zero, suc, ◌+◌, ◌*◌, ◌<◌, ◌≤◌, List, map, pos, arith, refl, sym, ap, ◌∙◌, Option, Some, None, slice_get, option_map, slice_get-map, Instr, checked, zeroes, zero_, sp}
use Rattle.rv_code.specs.Table.{encoding}
use Rattle.stack_certificate.specs.InstructionWords.{IsWordOf}
use Rattle.stack_certificate.proofs.FitsLemmas.{checked-some, checked-none}

word_of : (o : Option Instr) (instr : Instr) → option_map checked o ≡ Some (Some instr) → IsWordOf o (Some (encoding instr))
word_of None instr h = cc
word_of (Some found) instr h =
    let e : checked found ≡ Some instr = cc in
    let f = checked-some found instr e in
    (f.0, ap encoding f.1)

no_word_of : (o : Option Instr) → option_map checked o ≡ Some None → IsWordOf o None
no_word_of None h = tt
no_word_of (Some found) h =
    let e : checked found ≡ None = cc in
    checked-none found e

past_end : (o : Option Instr) → option_map checked o ≡ None → IsWordOf o None
past_end None h = tt
past_end (Some found) h = cc

pub slot-some : (slots : List (Option Instr)) (w : ℕ) (instr : Instr) (rows : List Instr) → slots ≡ map checked rows → Some (Some instr) ≡ slice_get slots w → IsWordOf (slice_get rows w) (Some (encoding instr))
slot-some slots w instr rows e h = word_of (slice_get rows w) instr (sym (slice_get-map checked rows w) ∙ (sym (ap (λ l. slice_get l w) e) ∙ sym h))

pub slot-none : (slots : List (Option Instr)) (w : ℕ) (rows : List Instr) → slots ≡ map checked rows → Some None ≡ slice_get slots w → IsWordOf (slice_get rows w) None
slot-none slots w rows e h = no_word_of (slice_get rows w) (sym (slice_get-map checked rows w) ∙ (sym (ap (λ l. slice_get l w) e) ∙ sym h))

pub slot-past : (slots : List (Option Instr)) (w : ℕ) (rows : List Instr) → slots ≡ map checked rows → None ≡ slice_get slots w → IsWordOf (slice_get rows w) None
slot-past slots w rows e h = past_end (slice_get rows w) (sym (slice_get-map checked rows w) ∙ (sym (ap (λ l. slice_get l w) e) ∙ sym h))

zeroes-get : (place n k : ℕ) → k < n → slice_get (zeroes place n) k ≡ Some (Instr.Sw sp zero_ (pos (place + 4 * k)))
zeroes-get place zero k h = absurd (omega arith)
zeroes-get place (suc n) zero h =
    let e : place ≡ place + 4 * 0 = omega arith in
    ap (λ p. Some (Instr.Sw sp zero_ (pos p))) e
zeroes-get place (suc n) (suc k) h =
    let e : place + 4 + 4 * k ≡ place + 4 * suc k = omega arith in
    zeroes-get (place + 4) n k (omega arith) ∙ ap (λ p. Some (Instr.Sw sp zero_ (pos p))) e

zeroes-past : (place n k : ℕ) → n ≤ k → slice_get (zeroes place n) k ≡ None
zeroes-past place zero k h = refl
zeroes-past place (suc n) zero h = absurd (omega arith)
zeroes-past place (suc n) (suc k) h = zeroes-past (place + 4) n k (omega arith)

pub zero-past : (place n k : ℕ) → n ≤ k → IsWordOf (slice_get (zeroes place n) k) None
zero-past place n k h = rw (zeroes-past place n k h) tt

pub zero-over : (place n k : ℕ) → k < n → checked (Instr.Sw sp zero_ (pos (place + 4 * k))) ≡ None → IsWordOf (slice_get (zeroes place n) k) None
zero-over place n k h e = rw (zeroes-get place n k h) (checked-none _ e)

pub zero-word : (place n k : ℕ) (instr : Instr) → k < n → checked (Instr.Sw sp zero_ (pos (place + 4 * k))) ≡ Some instr → IsWordOf (slice_get (zeroes place n) k) (Some (encoding instr))
zero-word place n k instr h e =
    let f = checked-some _ instr e in
    rw (zeroes-get place n k h) (f.0, ap encoding f.1)
