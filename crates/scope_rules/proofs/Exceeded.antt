-- The limits that kept items exceed are those of the source.
use Rattle.scope_rules.proofs.Common.{ℕ, ◌≡◌, ◌≤◌, ◌<◌, refl, sym, ap, subst, ◌∙◌, Bool, true, false, length, Some, None, arith, nat_lt, if◌then◌else◌, Which, ProgramTree, functions_sites, capped, Sofar, exceeded_with, most_locals, exceeded, Agrees}
use Rattle.scope_rules.proofs.LeastFaults.{is_less, is_not_less}
use Rattle.scope_rules.proofs.NoFaults.{not_less}

abbrev pub tree_from : Sofar → ℕ → ProgramTree
tree_from w main = record { functions = w.functions; globals = w.globals; tables = w.tables; main = main }

capped_in : (k n : ℕ) (b : Bool) → b ≡ nat_lt k (capped n) → k < 65537 → nat_lt k (capped n) ≡ nat_lt k n
capped_in k n true e h = sym e ∙ is_less k n (omega (arith, h, less_of k (capped n) (sym e)))
  where
    less_of : (a b : ℕ) → nat_lt a b ≡ true → a < b
    less_of a b e = grind (arith, e)
capped_in k n false e h = let l = not_less k (capped n) (sym e) in sym e ∙ is_not_less k n (omega (arith, h, l))

pub capped_test : (k n : ℕ) → k < 65537 → nat_lt k (capped n) ≡ nat_lt k n
capped_test k n h = capped_in k n (nat_lt k (capped n)) refl h

-- items within the limit of calls are the source's
pub same_sofar : (w v : Sofar) → Agrees w v → v.spot.site ≤ 65535 → w ≡ v
same_sofar w v h f = let g = h.functions f in λ k. record { spot = h.spot k; globals = h.globals k; tables = h.tables k; functions = g k }

exceeded_in : (w v : Sofar) (main sites locals : ℕ) (b : Bool) → b ≡ nat_lt 65535 sites → Agrees w v → sites ≡ v.spot.site → sites ≡ capped (length (functions_sites v.functions))
    → (sites ≤ 65535 → locals ≡ capped (most_locals w.functions)) → exceeded_with sites locals (tree_from w main) ≡ exceeded (tree_from v main)
exceeded_in w v main sites locals true e h s n l =
    let more : nat_lt 65535 (length (functions_sites v.functions)) ≡ true = sym (ap (nat_lt 65535) n ∙ capped_test 65535 (length (functions_sites v.functions)) (omega arith)) ∙ sym e in
    rw (sym e, more, h.count) refl
exceeded_in w v main sites locals false e h s n l =
    let few : sites ≤ 65535 = not_less 65535 sites (sym e) in
    let same : w ≡ v = same_sofar w v h (subst (λ x. x ≤ 65535) s few) in
    let calls : nat_lt 65535 sites ≡ nat_lt 65535 (length (functions_sites v.functions)) = ap (nat_lt 65535) n ∙ capped_test 65535 (length (functions_sites v.functions)) (omega arith) in
    let words : nat_lt 4096 locals ≡ nat_lt 4096 (most_locals v.functions) = ap (nat_lt 4096) (l few) ∙ (capped_test 4096 (most_locals w.functions) (omega arith) ∙ ap (λ x. nat_lt 4096 (most_locals x.functions)) same) in
    ap (λ x. exceeded_with sites locals (tree_from x main)) same ∙ rw (calls, words) refl

pub same_exceeded : (w v : Sofar) (main sites locals : ℕ) → Agrees w v → sites ≡ v.spot.site → sites ≡ capped (length (functions_sites v.functions))
    → (sites ≤ 65535 → locals ≡ capped (most_locals w.functions)) → exceeded_with sites locals (tree_from w main) ≡ exceeded (tree_from v main)
same_exceeded w v main sites locals = exceeded_in w v main sites locals (nat_lt 65535 sites) refl

over_sites : (sites locals : ℕ) (p : ProgramTree) (b : Bool) → b ≡ nat_lt 65535 sites → exceeded_with sites locals p ≡ None → b ≡ false
over_sites sites locals p false e h = refl
over_sites sites locals p true e h = absurd (never (nat_lt 4096 (length p.functions)) (rw (sym e) at h))
  where
    never : (f : Bool) → (if f then Some Which.Functions else Some Which.Sites) ≡ None → ⊥
    never true h = cc
    never false h = cc

-- items that exceed no limit are within that of calls
pub within_calls : (sites locals : ℕ) (p : ProgramTree) → exceeded_with sites locals p ≡ None → sites ≤ 65535
within_calls sites locals p h = not_less 65535 sites (over_sites sites locals p (nat_lt 65535 sites) refl h)
