-- What the command `budget` does.
use Rattle.std.specs.Prelude.{ℕ, ◌≡◌, ◌⊎◌, ◌+◌, List, [], ◌∷◌, ◌++◌, codes, Option}
use Rattle.cap_io.specs.Files.{Files}
use Rattle.cap_text.specs.Decimals.{canonical_decimal}
use Rattle.c_tree.specs.Trees.{ProgramTree}
use Rattle.c_lower.specs.ProgramCode.{lowered}
use Rattle.certificate_rules.specs.Validity.{IsValid, IsFirstFailure}
use Rattle.analysis_lines.specs.Lines.{name_at}
use Rattle.call_cycles.specs.Cycles.{IsLeast, IsOnCycle}
use Rattle.chunk_budget.specs.declared.budgets.Budget.{Budget}
use Rattle.chunk_budget.specs.LeastBudgets.{IsLeastBudget}
use Rattle.stack_image.specs.declared.images.Image.{Image}
use Rattle.stack_certificate.specs.declared.certificates.Certificate.{Certificate}
use Rattle.command_outcomes.specs.declared.stops.Cause.TheVariants as cause
use Rattle.command_outcomes.specs.Outcome.{Outcome, printed, refused}
use Rattle.command_outcomes.specs.CauseLines.{cycle_words, refusal}
use Rattle.command_files.specs.Loads.{AfterThree, AfterSource, AfterImage, AfterCertificate}
use Rattle.pair_commands.specs.Graphs.{names_of}

-- the line of a function's height
abbrev pub height_line : ℕ → ℕ → List ℕ
height_line function height = (((codes "height " ++ canonical_decimal function) ++ codes " ") ++ canonical_decimal height) ++ 10 ∷ []

-- the lines of these heights, with their functions numbered from one number on
abbrev pub height_lines : ℕ → List ℕ → List ℕ
height_lines function [] = []
height_lines function (height ∷ heights) = height_line function height ++ height_lines (function + 1) heights

-- the chunks of a thread, followed by the height of each function
abbrev pub budget_text : Budget → List ℕ
budget_text budget = ((codes "chunks " ++ canonical_decimal budget.per_thread) ++ 10 ∷ []) ++ height_lines 0 budget.heights

-- the least function on a cycle of calls is refused by its name
pub record IsCycleRefused (program : ProgramTree) (outcome : Outcome) : Type 0 where
  pub function : ℕ
  pub least : IsLeast (IsOnCycle (lowered program)) function
  pub is : outcome ≡ refused 17 (cycle_words (name_at (names_of program) function) ++ 10 ∷ [])

-- no function is on a cycle, and the least budget is printed
pub record IsBudgetPrinted (program : ProgramTree) (c : Certificate) (outcome : Outcome) : Type 0 where
  pub acyclic : (f : ℕ) → IsOnCycle (lowered program) f → ⊥
  pub budget : Budget
  pub least : IsLeastBudget (lowered program) c budget
  pub is : outcome ≡ printed 0 (budget_text budget)

-- the pair is checked, then its least budget is computed
abbrev pub BudgetsPair : ProgramTree → Image → Certificate → Outcome → Type 0
BudgetsPair program i c outcome =
    ((rule function index : ℕ) × IsFirstFailure (lowered program) i c rule function index × (outcome ≡ refusal (cause.Rejected rule function index)))
    ⊎ (IsValid (lowered program) i c × (IsCycleRefused program outcome ⊎ IsBudgetPrinted program c outcome))

abbrev pub BudgetsBytes : (source image certificate : List ℕ) → Outcome → Type 0
BudgetsBytes source image certificate =
    AfterSource source (λ program. AfterImage image (λ i. AfterCertificate certificate (λ c. BudgetsPair program i c)))

-- what is due for the words of `budget`; all three files are loaded before any of them is read
abbrev pub Budgets : Option Files → (source_name image_name certificate_name : List ℕ) → Outcome → Type 0
Budgets files source_name image_name certificate_name = AfterThree files source_name image_name certificate_name BudgetsBytes
