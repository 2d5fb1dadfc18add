-- What the checker answers, from the two least numbers that it takes.
use Rattle.chunk_budget.proofs.Common.{◌≡◌, ℕ, ◌≤◌, length, Some, None, FlatCode, IsWellFormed, Certificate, Budget, IsLeastOf, IsBudget, IsRefusal, IsLow, IsHighRoot}
use Rattle.chunk_budget.specs.declared.budgets.BudgetError.TheVariants.{Low, Root}
use Rattle.chunk_budget.proofs.CoverLemmas.{all_covered}
use Rattle.chunk_budget.proofs.RootLemmas.{all_low}

module _ (code : FlatCode) (certificate : Certificate) (budget : Budget) (formed : IsWellFormed code) (each : length budget.heights ≡ length code.functions) (some : 1 ≤ budget.per_thread) where
  pub low_refused : (site : ℕ) → IsLeastOf (IsLow code certificate budget.heights) (Some site) → IsRefusal code certificate budget (Low site)
  low_refused site low = (each, some, low)

  pub root_refused : (g : ℕ) → IsLeastOf (IsLow code certificate budget.heights) None → IsLeastOf (IsHighRoot code budget) (Some g) → IsRefusal code certificate budget (Root g)
  root_refused g covered high = (each, some, all_covered code certificate budget.heights formed covered, high)

  pub is_budget : IsLeastOf (IsLow code certificate budget.heights) None → IsLeastOf (IsHighRoot code budget) None → IsBudget code certificate budget
  is_budget covered low = record {
    heights = each;
    chunks = some;
    calls = all_covered code certificate budget.heights formed covered;
    roots = all_low code budget low;
  }
