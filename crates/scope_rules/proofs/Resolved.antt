-- From what the code found to what the source is.
use Rattle.scope_rules.proofs.Common.{ℕ, ◌≡◌, ◌≤◌, refl, sym, ap, subst, ◌∙◌, true, List, [], Option, Some, None, codes, Which, RawItemTree, AreWithinTemporaries, capped, IsWellScoped, Fault, Found, ScopeError, Binding, find, function_of, least_of, Sofar, definitions, faults_of, parts_of, program_of, has_main, exceeded, most_locals, exceeded_with, Agrees, IsResolved, IsRefused}
use Rattle.scope_rules.proofs.Exceeded.{tree_from, same_sofar, same_exceeded, within_calls}
use Rattle.scope_rules.proofs.Sites.{all_numbered}
use Rattle.scope_rules.proofs.LeastFaults.{none_is_none}
use Rattle.scope_rules.proofs.WellScopedPrograms.{well_scoped}

pub same_program : (is : List RawItemTree) (w : Sofar) (ds : List Binding) (o : Option Found) → w ≡ parts_of is → ds ≡ definitions is → o ≡ find (codes "main") ds
    → tree_from w (function_of o) ≡ program_of is
same_program is w ds o e d f = ap (λ x. tree_from x (function_of o)) e ∙ ap (λ x. tree_from (parts_of is) (function_of x)) (f ∙ ap (λ x. find (codes "main") x) d)

module _ (is : List RawItemTree) (w : Sofar) (ds : List Binding) (o : Option Found) (least : Option Fault)
    (e : Agrees w (parts_of is)) (d : ds ≡ definitions is) (f : o ≡ find (codes "main") ds) (l : least ≡ least_of None (faults_of is)) (n : least ≡ None) where
  rules_hold : faults_of is ≡ []
  rules_hold = none_is_none (faults_of is) (sym l ∙ n)

  pub no_main : o ≡ None → IsRefused is ScopeError.NoMain
  no_main h =
      let g : find (codes "main") (definitions is) ≡ None = sym (f ∙ ap (λ x. find (codes "main") x) d) ∙ h in
      (rules_hold, rw g refl)

  main_holds : (m : Found) → o ≡ Some m → has_main is ≡ true
  main_holds m h =
      let g : find (codes "main") (definitions is) ≡ Some m = sym (f ∙ ap (λ x. find (codes "main") x) d) ∙ h in
      rw g refl

  module _ (sites locals : ℕ) (s : sites ≡ w.spot.site) (c : sites ≤ 65535 → locals ≡ capped (most_locals w.functions)) where
    same_limits : exceeded_with sites locals (tree_from w (function_of o)) ≡ exceeded (program_of is)
    same_limits =
        let at : sites ≡ (parts_of is).spot.site = s ∙ ap (λ x. x.site) e.spot in
        same_exceeded w (parts_of is) (function_of o) sites locals e at (at ∙ (all_numbered is).site) c ∙ ap exceeded (same_program is (parts_of is) ds o refl d f)

    same_items : exceeded_with sites locals (tree_from w (function_of o)) ≡ None → w ≡ parts_of is
    same_items x = same_sofar w (parts_of is) e (subst (λ k. k ≤ 65535) (s ∙ ap (λ y. y.site) e.spot) (within_calls sites locals (tree_from w (function_of o)) x))

    pub over_limit : (m : Found) (which : Which) → o ≡ Some m → exceeded_with sites locals (tree_from w (function_of o)) ≡ Some which → IsRefused is (ScopeError.Limit which)
    over_limit m which h x = (rules_hold, main_holds m h, sym same_limits ∙ x)

    pub is_resolved : (m : Found) → o ≡ Some m → exceeded_with sites locals (tree_from w (function_of o)) ≡ None → IsResolved is (tree_from w (function_of o))
    is_resolved m h x = record { rules = rules_hold; main = main_holds m h; limits = sym same_limits ∙ x; tree = same_program is w ds o (same_items x) d f }

    pub is_well_scoped : (m : Found) → o ≡ Some m → exceeded_with sites locals (tree_from w (function_of o)) ≡ None → AreWithinTemporaries is → IsWellScoped (tree_from w (function_of o))
    is_well_scoped m h x t = subst IsWellScoped (sym (same_program is w ds o (same_items x) d f)) (well_scoped is rules_hold (main_holds m h) (sym same_limits ∙ x) t)
