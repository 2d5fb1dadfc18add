-- The frames of a thread of flat code.
use Rattle.std.specs.Prelude.{ℕ, ◌+◌, ◌-◌, List, [], ◌∷◌, ◌++◌, length, map, replicate, slice_index_or, slice_set, Option, Some, None}
use Rattle.cap_word.specs.Calls.{Finish}
use Rattle.flat_code.specs.declared.operations.Op.{Op}
use Rattle.flat_code.specs.Codes.{FlatCode, function_at, operation_at, site_of}

-- a frame: a function, the number of its current operation, and the words of each variable, or none if the variable
-- hasn't been set, since the initial contents of a frame in the stack have no meaning. A frame that waits for a call's
-- result is at that call.
pub record FlatFrame : Type 0 where
  pub function : ℕ
  pub next : ℕ
  pub variables : List (Option (List ℕ))

-- a running thread: its running frame, the frames below it, innermost first, and the globals, a row of words each
pub record FlatThread : Type 0 where
  pub frame : FlatFrame
  pub below : List FlatFrame
  pub globals : List (List ℕ)

-- a thread at a modelled call: the frame that is at it, and the frames below it
pub record FlatWaiting : Type 0 where
  pub frame : FlatFrame
  pub below : List FlatFrame

-- how a thread stops: like a source thread, or lost, if it has no current operation, reads a variable that hasn't been
-- set, or makes a call that doesn't exist. The flat code of a source is never lost.
pub data End : Type 0 where
  Finished : (finish : Finish) → End
  Lost : End

-- a frame at its function's start: its parameters are set to the arguments, and no other variable is set
abbrev pub pushed : FlatCode → ℕ → List ℕ → FlatFrame
pushed code f arguments = record {
  function = f;
  next = 0;
  variables = map (λ v. Some (v ∷ [])) arguments ++ replicate (length (function_at code f).sizes - length arguments) None;
}

-- the current operation of a frame
abbrev pub standing : FlatCode → FlatFrame → Option Op
standing code frame = operation_at code frame.function frame.next

-- the site of a frame's current operation, if that is a call
abbrev pub site_in : Option Op → Option ℕ
site_in None = None
site_in (Some op) = site_of op

abbrev pub standing_site : FlatCode → FlatFrame → Option ℕ
standing_site code frame = site_in (standing code frame)

-- the words of variable x, if it is set
abbrev pub variable : FlatFrame → ℕ → Option (List ℕ)
variable frame x = slice_index_or frame.variables x None

-- the frame at operation n
abbrev pub at : FlatFrame → ℕ → FlatFrame
at frame n = record frame { next = n }

-- the frame at the operation after its current one
abbrev pub passed : FlatFrame → FlatFrame
passed frame = at frame (frame.next + 1)

-- variable x is set to these words
abbrev pub set_to : FlatFrame → ℕ → List ℕ → FlatFrame
set_to frame x words = record frame { variables = slice_set frame.variables x (Some words) }

-- the frame after its operation set the scalar d
abbrev pub with_scalar : FlatFrame → ℕ → ℕ → FlatFrame
with_scalar frame d word = passed (set_to frame d (word ∷ []))

-- the frame after the result of its call arrived: the variable is set if the result is used
abbrev pub with_result : FlatFrame → Option ℕ → ℕ → FlatFrame
with_result frame None word = passed frame
with_result frame (Some d) word = with_scalar frame d word
