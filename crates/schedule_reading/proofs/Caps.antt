-- The caps and uses of what is kept.
use Rattle.schedule_reading.proofs.Common.{◌≡◌, ℕ, zero, suc, ◌-◌, ◌<◌, ◌≤◌, List, nat_eq, refl, sym, ap, ◌∙◌, subst, arith, slice_index, cond-false, ne_eqb, cap_of, use_of, all_caps, at_drop, Given, Core, IsOf, cap_in, NoneAbove, used_in, uses_in}

-- ---- caps

pub cap_is : (g : Given) (k : Core) → IsOf g k → (r : ℕ) → cap_in k r ≡ slice_index (all_caps g.policy) r
cap_is g k of zero = of.chunks
cap_is g k of (suc r) =
    cond-false (nat_eq (suc r) 0) k.policy.chunks (cap_of k.threads.exchange.caps (suc r)) (ne_eqb (suc r) 0 (λ e. omega (arith, e)))
    ∙ ap (λ (caps : List ℕ). cap_of caps (suc r)) of.exchange_caps ∙ sym (at_drop g.policy.caps r)

-- uses within the caps of what is kept are within those of the policy
pub within_policy : (g : Given) (k : Core) (uses : List ℕ) → IsOf g k → ((r : ℕ) → r < 8 → slice_index uses r ≤ cap_in k r) → NoneAbove uses (all_caps g.policy)
within_policy g k uses of within r below = subst (λ (n : ℕ). slice_index uses r ≤ n) (cap_is g k of r) (within r below)

pub within_monitor : (g : Given) (k : Core) (uses : List ℕ) → IsOf g k → ((r : ℕ) → r < 8 → slice_index uses r ≤ cap_in k r) → NoneAbove uses k.monitor.caps
within_monitor g k uses of within = subst (NoneAbove uses) (sym of.monitor_caps) (within_policy g k uses of within)

-- ---- uses

pub used_is : (k : Core) (r : ℕ) → used_in k r ≡ slice_index (uses_in (k.policy.chunks - k.free) k.threads.exchange.exchange) r
used_is k zero = refl
used_is k (suc r) =
    cond-false (nat_eq (suc r) 0) (k.policy.chunks - k.free) (use_of k.threads.exchange.exchange (suc r)) (ne_eqb (suc r) 0 (λ e. omega (arith, e)))
    ∙ sym (at_drop k.threads.exchange.exchange.uses r)
