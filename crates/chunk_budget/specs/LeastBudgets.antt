-- The least budget of a program, and when there is none.
use Rattle.std.specs.Prelude.{ℕ, ◌≤◌, ⊤}
use Rattle.flat_code.specs.Codes.{FlatCode}
use Rattle.stack_certificate.specs.declared.certificates.Certificate.{Certificate}
use Rattle.call_cycles.specs.Cycles.{IsLeast, IsOnCycle}
use Rattle.chunk_budget.specs.declared.budgets.Budget.{Budget}
use Rattle.chunk_budget.specs.declared.budgets.MakeBudgetError.{MakeBudgetError}
use Rattle.chunk_budget.specs.declared.budgets.MakeBudgetError.TheVariants.{Cycle, Memory}
use Rattle.chunk_budget.specs.Budgets.{height_of, IsBudget}

-- a budget such that no other has fewer chunks per thread or a lower function
pub record IsLeastBudget (code : FlatCode) (certificate : Certificate) (budget : Budget) : Type 0 where
  pub is : IsBudget code certificate budget
  pub chunks : (other : Budget) → IsBudget code certificate other → budget.per_thread ≤ other.per_thread
  pub heights : (other : Budget) → IsBudget code certificate other → (f : ℕ) → height_of budget.heights f ≤ height_of other.heights f

-- the least function on a cycle is named; out of memory says nothing
abbrev pub IsCycleRefusal : FlatCode → MakeBudgetError → Type 0
IsCycleRefusal code (Cycle f) = IsLeast (IsOnCycle code) f
IsCycleRefusal code Memory = ⊤

-- where a cycle is the reason, the program has no budget: a valid certificate links some call of each cycle, and the height
-- would be lower behind it
abbrev pub HasNoBudget : FlatCode → Certificate → MakeBudgetError → Type 0
HasNoBudget code certificate (Cycle f) = (budget : Budget) → IsBudget code certificate budget → ⊥
HasNoBudget code certificate Memory = ⊤
