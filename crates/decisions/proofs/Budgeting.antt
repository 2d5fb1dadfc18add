-- `budget` of a pair: some outcome is due.
use Rattle.decisions.proofs.Common.{◌≡◌, ◌∙◌, ℕ, ◌⊎◌, inl, inr, [], ◌∷◌, ◌++◌, length, refl, ap, length-map, ProgramTree, IsWellScoped, lowered, sites_distinct, FlatFunction, IsLeast, IsOnCycle, IsGraph, IsValid, IsFirstFailure, IsLeastBudget, formed, Image, Certificate, name_at, printed, refused, cycle_words, refusal, budget_text, BudgetsPair, names_of, lowered-graph}
use Rattle.flat_code.specs.Weight.{weight_of}
use Rattle.chunk_budget.specs.declared.budgets.Budget.{Budget}
use Rattle.command_outcomes.specs.declared.stops.Cause.TheVariants as cause
use Rattle.decisions.proofs.Graphs.{a_graph}
use Rattle.decisions.proofs.Heights.{budget_or_cycle}
use Rattle.decisions.proofs.Loading.{Some_due}

module _ (program : ProgramTree) (scoped : IsWellScoped program) (i : Image) (c : Certificate) where
  -- a budget, or a cycle
  abbrev Made : Type 0
  Made = ((f : ℕ) × IsLeast (IsOnCycle (lowered program)) f) ⊎ (((f : ℕ) → IsOnCycle (lowered program) f → ⊥) × (budget : Budget) × IsLeastBudget (lowered program) c budget)

  made : IsValid (lowered program) i c → Made
  made valid =
      let code = lowered program in
      let g = a_graph code (sites_distinct program scoped.site_numbers.0) in
      let is = g.is in
      let count : length g.graph.weights ≡ length code.functions = ap length is.weights ∙ length-map code.functions (λ (f : FlatFunction). weight_of f.sizes) in
      let same : IsGraph code g.graph = record { count = count; tables = is.tables; sites = is.sites } in
      budget_or_cycle code c g.graph (formed program i c scoped valid) (lowered-graph program scoped g.graph is) same

  of_made : IsValid (lowered program) i c → Made → Some_due (BudgetsPair program i c)
  of_made valid (inl cycle) =
      (refused 17 (cycle_words (name_at (names_of program) cycle.0) ++ 10 ∷ []), inr (valid, inl (record { function = cycle.0; least = cycle.1; is = refl })))
  of_made valid (inr budget) = (printed 0 (budget_text budget.1), inr (valid, inr (record { acyclic = budget.0; budget = budget.1; least = budget.2; is = refl })))

  pub budget_pair : IsValid (lowered program) i c ⊎ ((rule f index : ℕ) × IsFirstFailure (lowered program) i c rule f index) → Some_due (BudgetsPair program i c)
  budget_pair (inl valid) = of_made valid (made valid)
  budget_pair (inr w) = (refusal (cause.Rejected w.0 w.1 w.2), inl (w.0, w.1, w.2, w.3, refl))
