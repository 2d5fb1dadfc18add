-- A list of bytes as memory: to set a place is to write the byte at that address.
use Rattle.std.proofs.Math.ListN.{length-set}
use Rattle.rv_machine.proofs.Common.{◌≡◌, ◌≢◌, ℕ, ◌<◌, ◌≤◌, List, length, set, Some, eqb, ap, sym, subst, refl, ◌∙◌, arith, ⊎_elim, get_or-set_same, get_or-set_other, cases_eq, cases_lt, eq-eqb, ne_eqb, cond-true, cond-false, slice_get, put_byte, replaced}
use Rattle.std.proofs.lemmas.Option.{slice_get-get_or, slice_get_past}

same_place : (xs : List ℕ) (i v : ℕ) → i < length xs → slice_get (set xs i v) i ≡ replaced (slice_get xs i) v
same_place xs i v h =
    let longer : i < length (set xs i v) = omega (arith, length-set xs i v) in
    slice_get-get_or (set xs i v) i 0 longer ∙ ap Some (get_or-set_same xs i v 0 h) ∙
    ap (λ old. replaced old v) (sym (slice_get-get_or xs i 0 h))

other_place : (xs : List ℕ) (i v at : ℕ) → at ≢ i → slice_get (set xs i v) at ≡ slice_get xs at
other_place xs i v at apart =
    ⊎_elim
    (λ (h : at < length xs).
    let longer : at < length (set xs i v) = omega (arith, length-set xs i v) in
    slice_get-get_or (set xs i v) at 0 longer ∙ ap Some (get_or-set_other xs i at v 0 apart) ∙ sym (slice_get-get_or xs at 0 h))
    (λ (h : length xs ≤ at).
    let past : length (set xs i v) ≤ at = omega (arith, length-set xs i v) in
    slice_get_past (set xs i v) at past ∙ sym (slice_get_past xs at h))
    (cases_lt at (length xs))

pub slice_get-set : (xs : List ℕ) (i v at : ℕ) → i < length xs → slice_get (set xs i v) at ≡ put_byte (λ a. slice_get xs a) i v at
unfolding put_byte
slice_get-set xs i v at h =
    ⊎_elim
    (λ (e : at ≡ i). subst (λ k. slice_get (set xs i v) k ≡ put_byte (λ a. slice_get xs a) i v k) (sym e)
    (same_place xs i v h ∙ sym (cond-true (eqb i i) _ (slice_get xs i) (eq-eqb i i refl))))
    (λ (apart : at ≢ i). other_place xs i v at apart ∙ sym (cond-false (eqb at i) (replaced (slice_get xs at) v) (slice_get xs at) (ne_eqb at i apart)))
    (cases_eq at i)
