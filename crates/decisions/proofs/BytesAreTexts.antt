-- `build`, `graph`, `check` and `budget` write their lines and end with 0.
use Rattle.decisions.proofs.Common.{◌≡◌, ℕ, List, [], ◌∷◌, ◌++◌, Option, Some, refl, ap, subst, ◌∙◌, ⊎_elim, codes, Appends, Files, ProgramTree, lowered, IsOnCycle, IsValid, IsLeastBudget, Placement, Build, Check, Graph, Budget, IsWordList, IsLaidOut, Image, Certificate, Outside, IsWhole, WhereTold, AreStored, Outcome, printed, Accepted, Rejected, built, built_line, Builds, BuildsProgram, budget_text, Budgets, BudgetsPair, IsVerdict, verdict_outcome, Checks, ChecksPair, sizes_of, IsAnalysed, HasFittingFrames, Graphs, GraphsProgram, HasAnswered, HasSource, HasBuildable, HasValidPair, UnlessMemory, WritesText}
use Rattle.chunk_budget.specs.declared.budgets.Budget as budgets
use Rattle.pair_commands.specs.declared.check_command.Verdict.{Verdict}
use Rattle.decisions.proofs.Answered.{has_done, where_done}
use Rattle.decisions.proofs.Reading.{after_program, after_pair, not_refused, not_unbuilt}

writes_text : (before after : Outside) (status : ℕ) (o p : Outcome) → o ≡ p → p.status ≡ 0 → IsWhole o before after → status ≡ o.status → WritesText p.out before after status
writes_text before after status o p same succeeds whole told =
    record { out = subst (λ (x : Outcome). Appends before.taken after.taken x.out) same whole.out; succeeds = told ∙ (ap (λ (x : Outcome). x.status) same ∙ succeeds) }

-- ---- build

pub build_stores_its_pair : (words : List (List ℕ)) (files : Files) (trace name image certificate : List ℕ) (placement : Placement) (program : ProgramTree) (before after : Outside) (status : ℕ) →
    HasAnswered words files trace before after status → IsWordList words (Build name image certificate placement) → HasBuildable files name (sizes_of placement) program →
    UnlessMemory status ((i : Image) × (c : Certificate) × IsLaidOut (lowered program) (sizes_of placement) i c
    × WhereTold (AreStored (built image certificate i c).stores) (Some files) after.files × WritesText (built_line i) before after status)
build_stores_its_pair words files trace name image certificate placement program before after status answered asked there =
    where_done (Build name image certificate placement) before after status
    (λ done.
    let sizes = sizes_of placement in
    let o = done.outcome in
    let due : Builds (Some files) name image certificate sizes o = subst (λ (f : Option Files). Builds f name image certificate sizes o) answered.files_told done.does in
    ⊎_elim
    (λ x. absurd (not_unbuilt sizes program o there.frames there.code x))
    (λ x.
    let same : o ≡ built image certificate x.2 x.3 = x.5 in
    let whole = done.whole in
    let stored : WhereTold (AreStored (built image certificate x.2 x.3).stores) before.files after.files = subst (λ (y : Outcome). WhereTold (AreStored y.stores) before.files after.files) same whole.files in (
      x.2,
      x.3,
      x.4,
      subst (λ (f : Option Files). WhereTold (AreStored (built image certificate x.2 x.3).stores) f after.files) answered.files_told stored,
      writes_text before after status o (built image certificate x.2 x.3) same refl done.whole done.status_is,
    ))
    (after_program files name program (BuildsProgram sizes image certificate) o there.source due))
    (has_done words files trace before after status (Build name image certificate placement) answered asked)

-- ---- graph

pub graph_writes_its_lines : (words : List (List ℕ)) (files : Files) (trace name : List ℕ) (placement : Placement) (program : ProgramTree) (before after : Outside) (status : ℕ) →
    HasAnswered words files trace before after status → IsWordList words (Graph name placement) → HasSource files name program → HasFittingFrames program placement.max_path →
    UnlessMemory status ((text : List ℕ) × IsAnalysed program placement.max_path text × WritesText text before after status)
graph_writes_its_lines words files trace name placement program before after status answered asked there fits =
    where_done (Graph name placement) before after status
    (λ done.
    let o = done.outcome in
    let due : Graphs (Some files) name placement.max_path o = subst (λ (f : Option Files). Graphs f name placement.max_path o) answered.files_told done.does in
    ⊎_elim
    (λ x. absurd (not_refused program placement.max_path o fits x))
    (λ x. (x.1.0, x.1.1, writes_text before after status o (printed 0 x.1.0) x.1.2 refl done.whole done.status_is))
    (after_program files name program (GraphsProgram placement.max_path) o there due))
    (has_done words files trace before after status (Graph name placement) answered asked)

-- ---- check

accepts : (program : ProgramTree) (i : Image) (c : Certificate) (verdict : Verdict) → IsValid (lowered program) i c → IsVerdict program i c verdict → verdict ≡ Accepted
accepts program i c Accepted valid is = refl
accepts program i c (Rejected rule function index) valid is = absurd (is.fails (valid.holds rule function index))

pub check_writes_accepted : (words : List (List ℕ)) (files : Files) (trace source image certificate : List ℕ) (program : ProgramTree) (i : Image) (c : Certificate) (before after : Outside) (status : ℕ) →
    HasAnswered words files trace before after status → IsWordList words (Check source image certificate) → HasValidPair files source image certificate program i c →
    UnlessMemory status (WritesText (codes "accepted" ++ 10 ∷ []) before after status)
check_writes_accepted words files trace source image certificate program i c before after status answered asked there =
    where_done (Check source image certificate) before after status
    (λ done.
    let o = done.outcome in
    let due : Checks (Some files) source image certificate o = subst (λ (f : Option Files). Checks f source image certificate o) answered.files_told done.does in
    let pair = after_pair files source image certificate program i c ChecksPair o there due in
    let same : o ≡ verdict_outcome Accepted = pair.2 ∙ ap verdict_outcome (accepts program i c pair.0 there.valid pair.1) in
    writes_text before after status o (verdict_outcome Accepted) same refl done.whole done.status_is)
    (has_done words files trace before after status (Check source image certificate) answered asked)

-- ---- budget

pub budget_writes_its_lines : (words : List (List ℕ)) (files : Files) (trace source image certificate : List ℕ) (program : ProgramTree) (i : Image) (c : Certificate) (before after : Outside) (status : ℕ) →
    HasAnswered words files trace before after status → IsWordList words (Budget source image certificate) → HasValidPair files source image certificate program i c → ((f : ℕ) → IsOnCycle (lowered program) f → ⊥) →
    UnlessMemory status ((budget : budgets.Budget) × IsLeastBudget (lowered program) c budget × WritesText (budget_text budget) before after status)
budget_writes_its_lines words files trace source image certificate program i c before after status answered asked there acyclic =
    where_done (Budget source image certificate) before after status
    (λ done.
    let o = done.outcome in
    let due : Budgets (Some files) source image certificate o = subst (λ (f : Option Files). Budgets f source image certificate o) answered.files_told done.does in
    ⊎_elim
    (λ x. absurd (x.3.fails (there.valid.holds x.0 x.1 x.2)))
    (λ x. ⊎_elim
    (λ cycle. absurd (acyclic cycle.function cycle.least.holds))
    (λ y. (y.budget, y.least, writes_text before after status o (printed 0 (budget_text y.budget)) y.is refl done.whole done.status_is)) x.1)
    (after_pair files source image certificate program i c BudgetsPair o there due))
    (has_done words files trace before after status (Budget source image certificate) answered asked)
