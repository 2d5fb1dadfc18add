-- Shifts by whole bytes.
use Rattle.std.proofs.Common.{◌≡◌, ℕ, suc, ◌*◌, ◌%◌, ◌^◌, ◌<◌, refl, arith}

-- what a shift by whole bytes multiplies by
pub scale_is : (k : ℕ) → k < 4 → 1 * 2 ^ (8 * k) % 4294967296 ≡ 2 ^ (8 * k)
scale_is (suc (suc (suc (suc k)))) within = absurd (omega arith)
scale_is _ within = refl

pub byte_below : (k byte : ℕ) → k < 4 → byte < 2 ^ 8 → byte * 2 ^ (8 * k) < 2 ^ 32
byte_below (suc (suc (suc (suc k)))) byte within fits = absurd (omega arith)
byte_below _ byte within fits = omega arith
