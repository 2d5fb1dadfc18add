-- What the command `graph` does.
use Rattle.std.specs.Prelude.{ℕ, ◌≡◌, ◌⊎◌, List, [], ◌∷◌, ◌++◌, map, Option, Some, None}
use Rattle.cap_io.specs.Files.{Files}
use Rattle.c_tree.specs.Trees.{ProgramTree, FunctionTree}
use Rattle.c_lower.specs.ProgramCode.{lowered}
use Rattle.call_graph.specs.Graph.{CallGraphState}
use Rattle.checkpoint_place.specs.declared.plans.Plan.{Plan}
use Rattle.stack_build.specs.Builds.{frame_refusal, IsPlacedBy}
use Rattle.stack_build.specs.declared.refusals.BuildError.TheVariants.{FrameTooLarge}
use Rattle.analysis_lines.specs.Lines.{analysis_lines, name_at}
use Rattle.command_outcomes.specs.declared.documents.Document.TheVariants as document
use Rattle.command_outcomes.specs.Outcome.{Outcome, printed, refused}
use Rattle.command_outcomes.specs.CauseLines.{frame_words}
use Rattle.command_files.specs.Loads.{AfterLoad, AfterSource}

-- the names of a program's functions, by number
abbrev pub names_of : ProgramTree → List (List ℕ)
names_of program = map (λ (f : FunctionTree). f.name) program.functions

-- the text is that of the program's analysis for paths of this many bytes
pub record IsAnalysed (program : ProgramTree) (path : ℕ) (text : List ℕ) : Type 0 where
  pub graph : CallGraphState
  pub back : List ℕ
  pub plan : Plan
  pub placed : IsPlacedBy (lowered program) path graph back plan
  pub lines : text ≡ analysis_lines (names_of program) graph.weights plan.bounds graph.sites back plan.checkpointed

-- some frame is too large: the first such function is refused by its name
pub record IsFrameRefused (program : ProgramTree) (path : ℕ) (outcome : Outcome) : Type 0 where
  pub function : ℕ
  pub bytes : ℕ
  pub first : frame_refusal (lowered program) path ≡ Some (FrameTooLarge function bytes)
  pub is : outcome ≡ refused 5 (frame_words (name_at (names_of program) function) bytes ++ 10 ∷ [])

-- no frame is too large
abbrev pub HasFittingFrames : ProgramTree → ℕ → Type 0
HasFittingFrames program path = frame_refusal (lowered program) path ≡ None

-- what is due for a program: the refusal of its first frame that is too large, or its analysis
abbrev pub GraphsProgram : ℕ → ProgramTree → Outcome → Type 0
GraphsProgram path program outcome =
    IsFrameRefused program path outcome
    ⊎ (HasFittingFrames program path × ((text : List ℕ) × IsAnalysed program path text × (outcome ≡ printed 0 text)))

-- what is due for the words of `graph`: the analysis of the source of this name, for paths of this many bytes
abbrev pub Graphs : Option Files → (name : List ℕ) → (path : ℕ) → Outcome → Type 0
Graphs files name path = AfterLoad document.Source files name (λ source. AfterSource source (GraphsProgram path))
