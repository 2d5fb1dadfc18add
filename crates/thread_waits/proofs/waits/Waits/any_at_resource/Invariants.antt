use Rattle.thread_waits.proofs.Common.{◌≡◌, ℕ, ◌<◌, ◌≤◌, false, All, is_taker}
use Rattle.thread_waits.proofs.waits.Waits.any_at_resource.Given as goal

abbrev pub invariant-loop-resource : goal.invariant-loop-resource
invariant-loop-resource l = (r : ℕ) → r < l.resource → 1 ≤ r → All (λ wait. is_taker l.exchange.caps l.exchange.exchange r wait ≡ false) l.self-inside.places.items
