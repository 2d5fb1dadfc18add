-- The decimal of a number of 32 bits, as it is written.
use Rattle.std.specs.Int.{w128}
use Rattle.std.proofs.lemmas.Int.{to_z-of_z}
use Rattle.hoist_parts.proofs.Common.{◌≡◌, ℕ, ℤ, pos, ◌^◌, ◌<◌, refl, ap, ◌∙◌, arith, to_z, of_z, FitsSigned, canonical_decimal, canonical_integer}

decimal_of_pos : (n : ℕ) → canonical_integer (pos n) ≡ canonical_decimal n
unfolding canonical_integer
decimal_of_pos n = refl

-- widened to 128 signed bits
pub widened : (z : ℤ) (n : ℕ) → n < 2 ^ 32 → z ≡ pos n → canonical_integer (to_z w128 (of_z w128 z)) ≡ canonical_decimal n
widened z n small e =
    let fits : FitsSigned w128 z = rw e (record { sfits = omega arith }) in
    ap canonical_integer (to_z-of_z w128 z fits ∙ e) ∙ decimal_of_pos n
