-- The frames of a source thread.
use Rattle.std.specs.Prelude.{ℕ, List, [], ◌∷◌, ◌++◌, length, drop, take, map, false, slice_index_or}
use Rattle.cap_word.specs.Rows.{zeros, scalars}
use Rattle.c_tree.specs.Trees.{FunctionTree, ProgramTree, NoStmts}
use Rattle.c_mean.specs.ToDo.{Item, all_before}

-- the destination of a result: none, a name, an element whose index has been evaluated, or the caller
pub data Place : Type 0 where
  Nowhere : Place
  InLocal : (x : ℕ) → Place
  InGlobal : (g : ℕ) → Place
  InLocalElement : (a i : ℕ) → Place
  InGlobalElement : (a i : ℕ) → Place
  Returned : Place

-- a frame: a function, the words of its names, and what it has still to do
pub record Frame : Type 0 where
  pub function : ℕ
  pub names : List (List ℕ)
  pub to_do : List Item

-- a frame that waits for the result of its call at a site
pub record WaitingFrame : Type 0 where
  pub frame : Frame
  pub site : ℕ
  pub place : Place

-- a running thread: its running frame, the frames below it, innermost first, and the globals
pub record Running : Type 0 where
  pub frame : Frame
  pub below : List WaitingFrame
  pub globals : List (List ℕ)

-- a thread at a modelled call: the frame that waits at it, and the frames below it, innermost first
pub record Waiting : Type 0 where
  pub front : WaitingFrame
  pub below : List WaitingFrame

-- function f of the program, which exists
abbrev pub function_at : ProgramTree → ℕ → FunctionTree
function_at program f = slice_index_or program.functions f (record { name = []; params = 0; gives = false; sizes = []; body = NoStmts })

-- a frame at its function's start: its parameters have the arguments, and every other name is 0
abbrev pub pushed : ProgramTree → ℕ → List ℕ → Frame
pushed program f arguments = record {
  function = f;
  names = scalars arguments ++ zeros (drop (length arguments) (function_at program f).sizes);
  to_do = all_before (function_at program f).body [];
}

-- the key of a thread at a modelled call: the site of that call, followed by those of up to seven innermost calls,
-- innermost first
abbrev pub key_of : Waiting → List ℕ
key_of waiting = waiting.front.site ∷ take 7 (map (λ w. w.site) waiting.below)
