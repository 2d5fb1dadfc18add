-- The caps and uses of a world.
use Rattle.run_course.proofs.Common.{◌≡◌, ℕ, zero, suc, ◌-◌, ◌<◌, ◌≤◌, List, [], ◌∷◌, length, drop, nat_eq, refl, sym, ap, ◌∙◌, subst, arith, slice_index, cond-false, ne_eqb, cap_of, use_of, all_caps, uses_in, at_drop, same_eight, held_chunks, Setup, World, Setting, NoneAbove, HasSmallCaps, IsOf, Held, used_in, cap_in, free_count}

-- ---- caps

cap_is : (g : Setup) (held : Held) → IsOf g held → (r : ℕ) → cap_in held r ≡ slice_index (all_caps g.policy) r
cap_is g held of zero = of.chunks
cap_is g held of (suc r) = cond-false (nat_eq (suc r) 0) held.machine.areas.pool.count (cap_of held.setting.caps (suc r)) (ne_eqb (suc r) 0 (λ e. omega (arith, e))) ∙ ap (λ (s : Setting). cap_of s.caps (suc r)) of.setting ∙ sym (at_drop g.policy.caps r)

pub small_caps : (g : Setup) (held : Held) → IsOf g held → HasSmallCaps held
small_caps g held of r below = subst (λ (n : ℕ). n ≤ 1000000) (sym (cap_is g held of r)) (of.small r below)

-- uses within the caps of a world are within those of the policy
pub within_policy : (g : Setup) (held : Held) (uses : List ℕ) → IsOf g held → ((r : ℕ) → r < 8 → slice_index uses r ≤ cap_in held r) → NoneAbove uses (all_caps g.policy)
within_policy g held uses of within r below = subst (λ (n : ℕ). slice_index uses r ≤ n) (cap_is g held of r) (within r below)

pub within_small : (held : Held) (uses : List ℕ) → HasSmallCaps held → ((r : ℕ) → r < 8 → slice_index uses r ≤ cap_in held r) → (r : ℕ) → r < 8 → slice_index uses r ≤ 1000000
within_small held uses small within r below = let most = within r below in let cap = small r below in omega (arith, most, cap)

-- ---- uses

used_is : (w : World) (r : ℕ) → used_in w r ≡ slice_index (uses_in (held_chunks w) w.exchange) r
used_is w zero = refl
used_is w (suc r) = cond-false (nat_eq (suc r) 0) (w.areas.pool.count - free_count w.areas.pool) (use_of w.exchange (suc r)) (ne_eqb (suc r) 0 (λ e. omega (arith, e))) ∙ sym (at_drop w.exchange.uses r)

length_uses : (w : World) → length w.exchange.uses ≡ 8 → length (uses_in (held_chunks w) w.exchange) ≡ 8
length_uses w eight = by w.exchange.uses eight where
  by : (us : List ℕ) → length us ≡ 8 → suc (length (drop 1 us)) ≡ 8
  by [] e = absurd (omega (arith, e))
  by (u ∷ us) e = e

pub uses_are : (w : World) (uses : List ℕ) → length uses ≡ 8 → length w.exchange.uses ≡ 8 → ((r : ℕ) → r < 8 → slice_index uses r ≡ used_in w r) → uses ≡ uses_in (held_chunks w) w.exchange
uses_are w uses eight there same = same_eight uses (uses_in (held_chunks w) w.exchange) eight (length_uses w there) (λ r below. same r below ∙ used_is w r)
