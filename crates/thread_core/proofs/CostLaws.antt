-- What silent steps do to the cost.
use Rattle.thread_core.proofs.Common.{◌≡◌, ℕ, zero, suc, ◌+◌, add-zero, arith, sym, ◌∙◌, ap, subst, GoesOn, World, Setting, Counts, counts_step}

pub goes_cost : (s : Setting) (n : ℕ) (w at : World) → GoesOn s n w at → at.cost ≡ w.cost + n
goes_cost s zero w at e = ap (λ (v : World). v.cost) e ∙ sym (add-zero w.cost)
goes_cost s (suc n) w at h =
    let one : h.0.cost ≡ w.cost + 1 = (subst (Counts w) h.1 (counts_step s w)).cost in
    let rest : at.cost ≡ h.0.cost + n = goes_cost s n h.0 at h.2 in
    omega arith
