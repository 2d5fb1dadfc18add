-- Which resources are given.
use Rattle.std.proofs.Common.{◌≡◌, ℕ, zero, suc, ◌<◌, ◌≤◌, List, length, Some, None, refl, arith}
use Rattle.std.proofs.lemmas.List.{get_or_past}
use Rattle.std.proofs.lemmas.Grind.{common_steps}
use Rattle.cap_word.specs.declared.traps.TrapKind.{TrapKind}
use Rattle.c_mean.specs.ModelledCalls.{cap_of, resource_trap, channel_trap}

-- a number past the caps is given no cap
pub cap_past : (caps : List ℕ) (r : ℕ) → length caps ≤ r → cap_of caps r ≡ 0
cap_past caps zero h = refl
cap_past caps (suc r) h = get_or_past caps (suc r) 0 h

-- a call that is no trap names a resource among the caps
pub given_below : (caps : List ℕ) (r amount most : ℕ) → length caps ≡ 8 → resource_trap caps r amount most ≡ None → r < 8
given_below caps r amount most e t = grind (arith, common_steps, cap_past caps r)

-- a call that names no resource among the caps is a trap
pub trap_past : (caps : List ℕ) (r amount most : ℕ) → length caps ≡ 8 → 8 ≤ r → resource_trap caps r amount most ≡ Some TrapKind.Resource
trap_past caps r amount most e h = rw (cap_past caps r (omega arith)) refl

-- a call that is no trap names a channel
pub channel_below : (channel : ℕ) → channel_trap channel ≡ None → channel < 64
channel_below channel t = grind (arith, common_steps)
