-- A for: what is in scope after it, and the rules that it breaks.
use Rattle.scope_rules.proofs.Common.{◌≡◌, ◌-◌, ℕ, sym, ap, ◌∙◌, subst, Bool, true, List, length, drop, Option, ◌++◌, append_assoc, RawExprTree, RawSimpleTree, RawStmtTree, Fault, least_of, Spot, simples_after, simples_faults, inside, left, step_after, step_faults, condition_faults, parts_faults, stmt_after, stmt_faults}
use Rattle.scope_rules.proofs.Least.{least_of_then}
use Rattle.scope_rules.proofs.Scopes.{Extends, then_extends, simples_extends, step_extends, leaves}

-- the rules that its parts break one after another
pub parts_broken : (s a b : Spot) (init : List RawSimpleTree) (c : Option RawExprTree) (step : Option RawSimpleTree) (o la lb lc : Option Fault)
    → a ≡ simples_after s init → b ≡ a → la ≡ least_of o (simples_faults s init) → lb ≡ least_of la (condition_faults a.names c) → lc ≡ least_of lb (step_faults b step)
    → lc ≡ least_of o (parts_faults s init c step)
parts_broken s a b init c step o la lb lc ea eb fa fb fc =
    let z = simples_after s init in
    let rest = least_of_then la lb lc (condition_faults z.names c) (step_faults z step) (fb ∙ ap (λ x. least_of la (condition_faults x.names c)) ea) (fc ∙ ap (λ x. least_of lb (step_faults x step)) (eb ∙ ea)) in
    least_of_then o la lc (simples_faults s init) (condition_faults z.names c ++ step_faults z step) fa rest

module _ (s a d m : Spot) (init : List RawSimpleTree) (step : Option RawSimpleTree) (p : RawStmtTree)
    (ea : a ≡ inside s) (ed : d ≡ step_after (simples_after a init) step) where
  at_step : d ≡ step_after (simples_after (inside s) init) step
  at_step = ed ∙ ap (λ x. step_after (simples_after x init) step) ea

  pub for_place : (e : Spot) (count outer : ℕ) → m ≡ left d (stmt_after (inside d) p) → count ≡ length s.names → outer ≡ s.outer
      → e ≡ record m { names = drop (length m.names - count) m.names; outer = outer }
      → e ≡ left s (stmt_after (inside (step_after (simples_after (inside s) init) step)) p)
  for_place e count outer em c o h =
      let x : Extends (step_after (simples_after (inside s) init) step).names s.names =
      then_extends s.names (simples_after (inside s) init).names (step_after (simples_after (inside s) init) step).names
      (simples_extends (inside s) init) (step_extends (simples_after (inside s) init) step) in
      let n : m.names ≡ d.names = ap (λ y. y.names) em in
      let z : Extends m.names s.names = subst (λ y. Extends y s.names) (sym (n ∙ ap (λ y. y.names) at_step)) x in
      leaves s m e count outer c o z h ∙ (ap (λ y. left s y) em ∙ ap (λ y. left s (stmt_after (inside y) p)) at_step)

  pub for_faults : (gives : Bool) (c : Option RawExprTree) (o la ld lm : Option Fault)
      → la ≡ o → ld ≡ least_of la (parts_faults a init c step) → lm ≡ least_of ld (stmt_faults gives true (inside d) p)
      → lm ≡ least_of o (simples_faults (inside s) init
      ++ (condition_faults (simples_after (inside s) init).names c
      ++ (step_faults (simples_after (inside s) init) step
      ++ stmt_faults gives true (inside (step_after (simples_after (inside s) init) step)) p)))
  for_faults gives c o la ld lm fa fd fm =
      let z = simples_after (inside s) init in
      let fi = simples_faults (inside s) init in
      let fc = condition_faults z.names c in
      let fs = step_faults z step in
      let fp = stmt_faults gives true (inside (step_after z step)) p in
      least_of_then o ld lm (fi ++ (fc ++ fs)) fp (fd ∙ (ap (λ x. least_of x (parts_faults a init c step)) fa ∙ ap (λ x. least_of o (parts_faults x init c step)) ea))
      (fm ∙ ap (λ x. least_of ld (stmt_faults gives true (inside x) p)) at_step)
      ∙ ap (λ x. least_of o x) (append_assoc fi (fc ++ fs) fp ∙ ap (λ x. fi ++ x) (append_assoc fc fs fp))
