-- A call that blocks, and is no trap, names a channel or a resource that there is.
use Rattle.thread_core.proofs.Common.{◌≡◌, ℕ, zero, suc, ◌≤◌, List, length, Some, None, arith, Block, TrapKind, cap_of, resource_trap, Exchanging, row_of, IsBlockInRange}
use Rattle.thread_exchange.proofs.ResourceLaws.{given_below, channel_below}

some_resource : (caps : List ℕ) (r amount most : ℕ) → resource_trap caps r amount most ≡ None → 1 ≤ r
some_resource caps zero amount most t = absurd (let no : Some TrapKind.Resource ≡ None = t in cc)
some_resource caps (suc r) amount most t = omega arith

pub in_range : (x : Exchanging) (block : Block) → length x.caps ≡ 8 → (row_of x block).trap ≡ None → IsBlockInRange block
in_range x (Block.Wait channel) long t = channel_below channel t
in_range x (Block.WaitFor channel ticks) long t = channel_below channel t
in_range x (Block.Take resource amount) long t = (some_resource x.caps resource amount (cap_of x.caps resource) t, given_below x.caps resource amount (cap_of x.caps resource) long t)
in_range x _ long t = tt
