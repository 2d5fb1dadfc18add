-- When a number of chunks for each thread and a height for each function are enough for a program.
use Rattle.std.specs.Prelude.{◌≡◌, ◌≢◌, ◌⊎◌, ℕ, ◌+◌, ◌-◌, ◌<◌, ◌≤◌, Option, Some, List, length, slice_index}
use Rattle.std.specs.List.{AllByRecursion}
use Rattle.flat_code.specs.declared.operations.Op.{Op}
use Rattle.flat_code.specs.Codes.{FlatCode, operation_at}
use Rattle.call_cycles.specs.Cycles.{IsLeast, functions_called}
use Rattle.stack_certificate.specs.declared.certificates.Certificate.{Certificate}
use Rattle.stack_certificate.specs.declared.sites.LinkKind.{LinkKind}
use Rattle.stack_certificate.specs.Templates.{kind_of}
use Rattle.certificate_rules.specs.Sites.{certified_site}
use Rattle.chunk_budget.specs.declared.budgets.Budget.{Budget}
use Rattle.chunk_budget.specs.declared.budgets.BudgetError.{BudgetError}
use Rattle.chunk_budget.specs.declared.budgets.BudgetError.TheVariants.{Length, Zero, Low, Root}

-- the height of function f, which has one
abbrev pub height_of : List ℕ → ℕ → ℕ
height_of heights f = slice_index heights f

-- the number of chunks that a call adds to those of its caller's thread: one if it is linked, and none if it is plain
abbrev pub chunks_added : LinkKind → ℕ
chunks_added LinkKind.Plain = 0
chunks_added (LinkKind.Linked need) = 1
chunks_added (LinkKind.Spawned need) = 0

-- an operation of function f is covered: the height of f is at least that of each function that it calls, and at least one
-- more at a linked site
abbrev pub IsCovered : FlatCode → Certificate → List ℕ → ℕ → Op → Type 0
IsCovered code certificate heights f op =
    AllByRecursion (λ g. height_of heights g + chunks_added (kind_of certificate op) ≤ height_of heights f) (functions_called code op)

-- each operation of the program is covered
abbrev pub AreCovered : FlatCode → Certificate → List ℕ → Type 0
AreCovered code certificate heights = (f k : ℕ) (op : Op) → operation_at code f k ≡ Some op → IsCovered code certificate heights f op

-- an operation of the program starts a thread with function g
pub record IsSpawned (code : FlatCode) (g : ℕ) : Type 0 where
  pub f : ℕ
  pub k : ℕ
  pub site : ℕ
  pub result : Option ℕ
  pub argument : ℕ
  pub there : operation_at code f k ≡ Some (Op.Spawn site result g argument)

-- the first function of some thread: main, or one with which a thread is started
abbrev pub IsRoot : FlatCode → ℕ → Type 0
IsRoot code g = (g ≡ code.main) ⊎ IsSpawned code g

-- a budget: each function has a height, a thread has at least one chunk, every call is covered, and the height of each
-- thread's first function is below the number of the thread's chunks, since the thread starts in a chunk
pub record IsBudget (code : FlatCode) (certificate : Certificate) (budget : Budget) : Type 0 where
  pub heights : length budget.heights ≡ length code.functions
  pub chunks : 1 ≤ budget.per_thread
  pub calls : AreCovered code certificate budget.heights
  pub roots : (g : ℕ) → IsRoot code g → height_of budget.heights g ≤ budget.per_thread - 1

-- ---- which refusal is returned

-- a call at this site isn't covered
pub record IsLow (code : FlatCode) (certificate : Certificate) (heights : List ℕ) (site : ℕ) : Type 0 where
  pub f : ℕ
  pub k : ℕ
  pub op : Op
  pub there : operation_at code f k ≡ Some op
  pub at : certified_site op ≡ Some site
  pub low : IsCovered code certificate heights f op → ⊥

-- a thread's first function is too high for the thread's chunks
abbrev pub IsHighRoot : FlatCode → Budget → ℕ → Type 0
IsHighRoot code budget g = IsRoot code g × (budget.per_thread - 1 < height_of budget.heights g)

-- the refusals: each applies if no earlier one does
abbrev pub IsRefusal : FlatCode → Certificate → Budget → BudgetError → Type 0
IsRefusal code certificate budget (Length heights functions) =
    (heights ≡ length budget.heights) × (functions ≡ length code.functions) × (heights ≢ functions)
IsRefusal code certificate budget Zero = (length budget.heights ≡ length code.functions) × (budget.per_thread ≡ 0)
IsRefusal code certificate budget (Low site) =
    (length budget.heights ≡ length code.functions) × (1 ≤ budget.per_thread) × IsLeast (IsLow code certificate budget.heights) site
IsRefusal code certificate budget (Root g) =
    (length budget.heights ≡ length code.functions) × (1 ≤ budget.per_thread) × AreCovered code certificate budget.heights × IsLeast (IsHighRoot code budget) g
