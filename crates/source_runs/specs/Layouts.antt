-- The places of the words of a program's names in an interpreter.
use Rattle.std.specs.Prelude.{◌≡◌, ◌^◌, ℕ, ◌<◌, List, [], ◌∷◌, map, sum}
use Rattle.c_tree.specs.ProgramView.{program_tree}
use Rattle.c_tree.specs.Trees.{FunctionTree, ProgramTree}
use Rattle.c_tree.specs.WellScoped.{Context, IsWellScoped, context_of, signature_of}
use Rattle.cap_word.specs.Signatures.{signature_at}
use Rattle.c_mean.specs.Frames.{function_at}
use Rattle.c_mean.specs.Layout.{widths_of}
use Rattle.source_items.specs.Rows.{AreStarts}
use Rattle.source_runs.specs.declared.interpreter.Interpreter.{Interpreter}
use Rattle.source_runs.specs.declared.layout.Layout.{Layout}

pub record IsLayout (widths : List ℕ) (layout : Layout) : Type 0 where
  pub placed : AreStarts widths layout.starts.items
  pub words : layout.words ≡ sum widths

-- a layout for each function
abbrev pub AreLayouts : List FunctionTree → List Layout → Type 0
AreLayouts [] [] = Unit {0}
AreLayouts [] (layout ∷ layouts) = ⊥
AreLayouts (f ∷ fs) [] = ⊥
AreLayouts (f ∷ fs) (layout ∷ layouts) = IsLayout f.sizes layout × AreLayouts fs layouts

-- the number of words of each function's names is within the limit
abbrev pub AreSmall : List FunctionTree → Type 0
AreSmall [] = Unit {0}
AreSmall (f ∷ fs) = (sum f.sizes < 2 ^ 32) × AreSmall fs

-- the program of an interpreter
abbrev pub tree_of : Interpreter → ProgramTree
tree_of interpreter = program_tree interpreter.program.now

pub record IsReady (interpreter : Interpreter) : Type 0 where
  pub scoped : IsWellScoped (tree_of interpreter)
  pub functions : AreLayouts (tree_of interpreter).functions interpreter.layouts.items
  pub global_widths : interpreter.global_widths.items ≡ widths_of (tree_of interpreter).globals
  pub globals : IsLayout (widths_of (tree_of interpreter).globals) interpreter.global_layout

-- ---- a function by its number

abbrev pub sizes_at : ProgramTree → ℕ → List ℕ
sizes_at tree f = (function_at tree f).sizes

abbrev pub params_at : ProgramTree → ℕ → ℕ
params_at tree f = (signature_at (map signature_of tree.functions) f).params

abbrev pub context_at : ProgramTree → ℕ → Context
context_at tree f = context_of tree (function_at tree f)

-- it holds in some scope
pub record InSomeScope (P : List ℕ → Type 0) : Type 0 where
  pub scope : List ℕ
  pub scoped : P scope
