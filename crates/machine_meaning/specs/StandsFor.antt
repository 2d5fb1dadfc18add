-- When a thread of a program's flat code stands for a thread of the program: both have equally many frames of the same
-- functions, which wait at the same sites or are at their function's start; each name in scope has its words in its
-- variable; the index of an element that waits for a result is in the first temporary; and each frame of the source
-- still has to do what follows its site in the text.
use Rattle.std.specs.Prelude.{◌≡◌, ℕ, ◌<◌, IsTrue, List, [], ◌∷◌, map, length, Some}
use Rattle.cap_word.specs.Rows.{row}
use Rattle.c_tree.specs.Sizes.{below}
use Rattle.c_tree.specs.Trees.{FunctionTree, ProgramTree}
use Rattle.c_tree.specs.WellScoped.{visible}
use Rattle.c_mean.specs.Frames.{Place, Nowhere, InLocal, InGlobal, InLocalElement, InGlobalElement, Returned, Frame, WaitingFrame, Running, Waiting, function_at}
use Rattle.c_mean.specs.Sites.{CallInText, WaitsAt}
use Rattle.c_mean.specs.ToDo.{all_before}
use Rattle.flat_code.specs.Frames.{FlatFrame, FlatThread, FlatWaiting, variable, standing_site}
use Rattle.c_lower.specs.ProgramCode.{first_temporary, function_sizes, lowered}

-- ---- words of names and variables

-- names of a function, each with its declared number of words
abbrev pub AreNamesOf : FunctionTree → List (List ℕ) → Type 0
AreNamesOf f names = map length names ≡ f.sizes

-- each name in a scope has its words in its variable
abbrev pub ScopeStands : FunctionTree → List ℕ → List (List ℕ) → FlatFrame → Type 0
ScopeStands f scope names flat = (x : ℕ) → x < length f.sizes → IsTrue (visible x scope) → variable flat x ≡ Some (row names x)

-- the index of an element, if there is one, is in the first temporary
abbrev pub IndexStands : FunctionTree → Place → FlatFrame → Type 0
IndexStands f Nowhere flat = Unit {0}
IndexStands f (InLocal x) flat = Unit {0}
IndexStands f (InGlobal g) flat = Unit {0}
IndexStands f (InLocalElement a i) flat = variable flat (first_temporary f) ≡ Some (i ∷ [])
IndexStands f (InGlobalElement a i) flat = variable flat (first_temporary f) ≡ Some (i ∷ [])
IndexStands f Returned flat = Unit {0}

-- ---- frames

-- a frame that waits at a call
pub record FrameStandsFor (program : ProgramTree) (waiting : WaitingFrame) (flat : FlatFrame) : Type 0 where
  -- the call in its function's text: its result is assigned as the text says, and the frame still has to do what
  -- follows the call there
  pub call : CallInText
  pub waits : WaitsAt program waiting call
  pub function : flat.function ≡ waiting.frame.function
  pub site : standing_site (lowered program) flat ≡ Some waiting.site
  pub names : AreNamesOf (function_at program waiting.frame.function) waiting.frame.names
  pub variables : length flat.variables ≡ length (function_sizes (function_at program waiting.frame.function))
  pub scope : ScopeStands (function_at program waiting.frame.function) call.scope waiting.frame.names flat
  pub index : IndexStands (function_at program waiting.frame.function) waiting.place flat

-- a frame at its function's start, with the parameters in scope
pub record FrameStartsAs (program : ProgramTree) (frame : Frame) (flat : FlatFrame) : Type 0 where
  pub defined : frame.function < length program.functions
  pub function : flat.function ≡ frame.function
  pub next : flat.next ≡ 0
  pub to_do : frame.to_do ≡ all_before (function_at program frame.function).body []
  pub names : AreNamesOf (function_at program frame.function) frame.names
  pub variables : length flat.variables ≡ length (function_sizes (function_at program frame.function))
  pub scope : ScopeStands (function_at program frame.function) (below (function_at program frame.function).params) frame.names flat

-- equally many frames, each of which stands for the corresponding one
abbrev pub FramesStandFor : ProgramTree → List WaitingFrame → List FlatFrame → Type 0
FramesStandFor program [] [] = Unit {0}
FramesStandFor program [] (flat ∷ flats) = ⊥
FramesStandFor program (waiting ∷ rest) [] = ⊥
FramesStandFor program (waiting ∷ rest) (flat ∷ flats) = FrameStandsFor program waiting flat × FramesStandFor program rest flats

-- ---- threads

-- a thread at a modelled call
pub record StandsFor (program : ProgramTree) (waiting : Waiting) (flat : FlatWaiting) : Type 0 where
  pub front : FrameStandsFor program waiting.front flat.frame
  pub below : FramesStandFor program waiting.below flat.below

-- a thread whose running frame is at its function's start
pub record StartsAs (program : ProgramTree) (thread : Running) (flat : FlatThread) : Type 0 where
  pub frame : FrameStartsAs program thread.frame flat.frame
  pub below : FramesStandFor program thread.below flat.below
  pub globals : flat.globals ≡ thread.globals
