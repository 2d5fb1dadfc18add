-- The frames of a deep thread.
use Rattle.std.specs.Prelude.{ℕ, List, [], ◌∷◌, ◌++◌, length, drop, take, map, slice_index_or}
use Rattle.cap_word.specs.Rows.{zeros, scalars}
use Rattle.deep_mean.specs.DeepTrees.{DeepFunction, DeepProgram, NoStmts}
use Rattle.deep_mean.specs.Evaluation.{Around}
use Rattle.deep_mean.specs.DeepToDo.{Use, Item, all_before}

-- a frame: a function, the words of its names, and what it has still to do
pub record DeepFrame : Type 0 where
  pub function : ℕ
  pub names : List (List ℕ)
  pub to_do : List Item

-- a frame that waits for the result of its call at a site: the constructs around the call in its expression, and the
-- use of the expression's value
pub record DeepWaitingFrame : Type 0 where
  pub frame : DeepFrame
  pub site : ℕ
  pub around : List Around
  pub use_ : Use

pub record DeepRunning : Type 0 where
  pub frame : DeepFrame
  pub below : List DeepWaitingFrame
  pub globals : List (List ℕ)

-- a thread at a modelled call
pub record DeepWaiting : Type 0 where
  pub front : DeepWaitingFrame
  pub below : List DeepWaitingFrame

abbrev pub function_at : DeepProgram → ℕ → DeepFunction
function_at program f = slice_index_or program.functions f (record { params = 0; sizes = []; body = NoStmts })

-- a frame at its function's start: its parameters have the arguments, and every other name is 0
abbrev pub pushed : DeepProgram → ℕ → List ℕ → DeepFrame
pushed program f arguments = record {
  function = f;
  names = scalars arguments ++ zeros (drop (length arguments) (function_at program f).sizes);
  to_do = all_before (function_at program f).body [];
}

-- the key of a thread at a modelled call: the site of that call, followed by those of up to seven innermost calls,
-- innermost first
abbrev pub key_of : DeepWaiting → List ℕ
key_of waiting = waiting.front.site ∷ take 7 (map (λ w. w.site) waiting.below)
