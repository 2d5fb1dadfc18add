-- What is left of a trace behind a line is shorter.
use Rattle.log_laws.proofs.Common.{◌≡◌, ◌≢◌, ℕ, suc, ◌<◌, ◌≤◌, ◌⊎◌, inl, inr, List, [], ◌∷◌, length, Some, sym, arith, subst, nat_eq, cases_eq, cond-true, cond-false, eq-eqb, ne_eqb, rest_of, Event, Trace, IsNext}

rest_short : (bytes : List ℕ) → length (rest_of bytes) ≤ length bytes
rest_short [] = omega arith
rest_short (byte ∷ bytes) = by (rest_short bytes) (cases_eq byte 10) where
  by : length (rest_of bytes) ≤ length bytes → (byte ≡ 10) ⊎ (byte ≢ 10) → length (rest_of (byte ∷ bytes)) ≤ length (byte ∷ bytes)
  by below (inl e) = let is : rest_of (byte ∷ bytes) ≡ bytes = cond-true (nat_eq byte 10) bytes (rest_of bytes) (eq-eqb byte 10 e) in
      subst (λ (l : List ℕ). length l ≤ suc (length bytes)) (sym is) (omega arith)
  by below (inr apart) = let is : rest_of (byte ∷ bytes) ≡ rest_of bytes = cond-false (nat_eq byte 10) bytes (rest_of bytes) (ne_eqb byte 10 apart) in
      subst (λ (l : List ℕ). length l ≤ suc (length bytes)) (sym is) (omega (arith, below))

shorter_by : (bytes : List ℕ) → 0 < length bytes → length (rest_of bytes) < length bytes
shorter_by [] h = absurd (omega (arith, h))
shorter_by (byte ∷ bytes) h = by (cases_eq byte 10) where
  by : (byte ≡ 10) ⊎ (byte ≢ 10) → length (rest_of (byte ∷ bytes)) < length (byte ∷ bytes)
  by (inl e) = let is : rest_of (byte ∷ bytes) ≡ bytes = cond-true (nat_eq byte 10) bytes (rest_of bytes) (eq-eqb byte 10 e) in
      subst (λ (l : List ℕ). length l < suc (length bytes)) (sym is) (omega arith)
  by (inr apart) = let is : rest_of (byte ∷ bytes) ≡ rest_of bytes = cond-false (nat_eq byte 10) bytes (rest_of bytes) (ne_eqb byte 10 apart) in
      let below = rest_short bytes in
      subst (λ (l : List ℕ). length l < suc (length bytes)) (sym is) (omega (arith, below))

pub shorter : (trace : Trace) (event : Event) → IsNext trace (Some event) → length (rest_of trace.bytes) < length trace.bytes
shorter trace event is = shorter_by trace.bytes is.some
