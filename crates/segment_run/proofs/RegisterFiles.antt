-- A list of registers, and the same with another value at 0, where registers are read and written.
use Rattle.segment_run.proofs.Common.{◌≡◌, ℕ, zero, suc, ◌<◌, List, [], ◌∷◌, eqb, false, refl, sym, arith, cond-false, ne_eqb, slice_index, slice_set, read, write}

pub restored : (x : List ℕ) → slice_set (slice_set x 0 0) 0 (slice_index x 0) ≡ x
restored [] = refl
restored (y ∷ x) = refl

pub zero_at_first : (x : List ℕ) → slice_index (slice_set x 0 0) 0 ≡ 0
zero_at_first [] = refl
zero_at_first (y ∷ x) = refl

above : (n : ℕ) → eqb (suc n) 0 ≡ false
above n = ne_eqb (suc n) 0 (λ (e : suc n ≡ 0). omega (arith, e))

pub read_beside : (x : List ℕ) (first register : ℕ) → slice_index x 0 ≡ 0 → slice_index x register ≡ read (slice_set x 0 first) register
read_beside [] first (suc register) is = sym (cond-false (eqb (suc register) 0) 0 (slice_index [] (suc register)) (above register))
read_beside (y ∷ x) first (suc register) is = sym (cond-false (eqb (suc register) 0) 0 (slice_index (first ∷ x) (suc register)) (above register))
read_beside _ first zero is = is

pub written_beside : (x : List ℕ) (first register value : ℕ) → 0 < register → slice_set (slice_set x register value) 0 first ≡ write (slice_set x 0 first) register value
written_beside [] first (suc register) value some = sym (cond-false (eqb (suc register) 0) [] [] (above register))
written_beside (y ∷ x) first (suc register) value some = sym (cond-false (eqb (suc register) 0) (first ∷ x) (slice_set (first ∷ x) (suc register) value) (above register))
written_beside _ first zero value some = absurd (omega arith)

pub first_stays : (x : List ℕ) (register value : ℕ) → 0 < register → slice_index (slice_set x register value) 0 ≡ slice_index x 0
first_stays [] zero value some = absurd (omega arith)
first_stays (y ∷ x) zero value some = absurd (omega arith)
first_stays [] (suc register) value some = refl
first_stays (y ∷ x) (suc register) value some = refl
