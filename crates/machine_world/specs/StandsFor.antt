-- The source thread for which a machine thread that rests stands. Both have equally many frames of the same functions,
-- which wait at the same sites or are at their function's start. Each name in scope has its words at the certificate's
-- place. Each source frame has still to do what follows its site in the text, and the index of an element that waits
-- for a result is at the place of the function's first temporary. At a function's first word its parameters are in the
-- argument registers.
use Rattle.std.specs.Prelude.{◌≡◌, ℕ, ◌+◌, ◌<◌, IsTrue, List, [], ◌∷◌, length, map, Option, Some}
use Rattle.cap_word.specs.Rows.{width, word_at}
use Rattle.c_tree.specs.Trees.{ProgramTree}
use Rattle.c_tree.specs.WellScoped.{visible}
use Rattle.c_mean.specs.ToDo.{all_before}
use Rattle.c_mean.specs.Frames as source
use Rattle.c_mean.specs.Frames.{InLocalElement, InGlobalElement, WaitingFrame, Running, Waiting, function_at}
use Rattle.c_mean.specs.Sites.{CallInText, WaitsAt}
use Rattle.c_mean.specs.Steps.{source_resume}
use Rattle.chunk_pool.specs.Pool.{Pool}
use Rattle.rv_machine.specs.Registers.{read}
use Rattle.flat_code.specs.declared.operations.Op.{Op}
use Rattle.flat_code.specs.Frames.{FlatFrame, site_in}
use Rattle.machine_world.specs.Globals.{AreGlobals}
use Rattle.machine_world.specs.InPlace.{Frame}
use Rattle.machine_world.specs.Keys.{standing}
use Rattle.stack_certificate.specs.Registers.{a0}
use Rattle.machine_world.specs.Local.{Core, Local}
use Rattle.machine_world.specs.Places.{Checked}
use Rattle.machine_world.specs.Rests.{variable_word, IsResting, AtStart, AtCall, PastCall, StandsForFlat}

-- a source thread at a point where a machine thread may rest: its running frame is at its function's start, or it waits
-- at a modelled call
pub data SourceThread : Type 0 where
  Starts : (frame : source.Frame) (below : List WaitingFrame) → SourceThread
  Waits : (waiting : Waiting) → SourceThread

-- the thread as it continues with these globals, and, if it waits at a call, with this word as the result
abbrev pub going_on : SourceThread → ℕ → List (List ℕ) → Running
going_on (Starts frame below) result globals = record { frame = frame; below = below; globals = globals }
going_on (Waits waiting) result globals = source_resume waiting (record { result = result; globals = globals })

-- ---- one frame

-- the frame has the names of its function, each with its declared number of words
abbrev pub HasNames : ProgramTree → source.Frame → Type 0
HasNames program frame = map length frame.names ≡ (function_at program frame.function).sizes

-- each name in scope has its words at the certificate's place
abbrev pub HoldsNames : Checked → Pool → Frame → List (List ℕ) → List ℕ → Type 0
HoldsNames c pool frame names scope =
    (x k : ℕ) → IsTrue (visible x scope) → k < width names x → variable_word c pool frame x k ≡ word_at names x k

-- the variable of a function's first temporary, which follows those of its names
abbrev pub first_temporary : ProgramTree → ℕ → ℕ
first_temporary program f = length (function_at program f).sizes

-- the index of an element that waits for a result is in that variable
abbrev pub HoldsIndex : Checked → Pool → Frame → ℕ → source.Place → Type 0
HoldsIndex c pool frame temporary (InLocalElement a i) = variable_word c pool frame temporary 0 ≡ i
HoldsIndex c pool frame temporary (InGlobalElement a i) = variable_word c pool frame temporary 0 ≡ i
HoldsIndex c pool frame temporary _ = Unit {0}

-- a frame with its current operation, and a source frame that waits at a call of its function's text
pub record IsWaitingFrame (c : Checked) (program : ProgramTree) (pool : Pool) (frame : Frame) (op : Option Op) (waiting : WaitingFrame) : Type 0 where
  pub function : frame.function ≡ waiting.frame.function
  pub site : site_in op ≡ Some waiting.site
  pub named : HasNames program waiting.frame
  pub call : CallInText
  pub in_text : WaitsAt program waiting call
  pub names : HoldsNames c pool frame waiting.frame.names call.scope
  pub index : HoldsIndex c pool frame (first_temporary program waiting.frame.function) waiting.place

-- a frame at its function's first word, and a source frame at its function's start
pub record IsStartingFrame (program : ProgramTree) (core : Core) (frame : Frame) (starting : source.Frame) : Type 0 where
  pub function : frame.function ≡ starting.function
  pub named : HasNames program starting
  pub parameters : (x : ℕ) → x < (function_at program starting.function).params → word_at starting.names x 0 ≡ read core.x (a0 + x)
  pub to_do : starting.to_do ≡ all_before (function_at program starting.function).body []

-- ---- all frames of a thread, innermost first

abbrev pub AreWaitingFrames : Checked → ProgramTree → Pool → List Frame → List WaitingFrame → Type 0
AreWaitingFrames c program pool [] [] = Unit {0}
AreWaitingFrames c program pool (frame ∷ frames) (waiting ∷ rest) =
    IsWaitingFrame c program pool frame (standing c frame) waiting × AreWaitingFrames c program pool frames rest
AreWaitingFrames c program pool _ _ = ⊥

abbrev pub StandAtStart : Checked → ProgramTree → Pool → Core → List Frame → source.Frame → List WaitingFrame → Type 0
StandAtStart c program pool core [] starting below = ⊥
StandAtStart c program pool core (frame ∷ frames) starting below =
    IsStartingFrame program core frame starting × AreWaitingFrames c program pool frames below

-- at or just after the ECALL of this operation
abbrev pub StandAtCall : Checked → ProgramTree → Pool → Op → List Frame → Waiting → Type 0
StandAtCall c program pool op [] waiting = ⊥
StandAtCall c program pool op (frame ∷ frames) waiting =
    IsWaitingFrame c program pool frame (Some op) waiting.front × AreWaitingFrames c program pool frames waiting.below

-- the thread that rests in this way stands for the source thread
abbrev pub StandsFor : (c : Checked) (program : ProgramTree) (pool : Pool) (core : Core) → IsResting c pool core → SourceThread → Type 0
StandsFor c program pool core (AtStart f frames in_place) (Starts frame below) = StandAtStart c program pool core frames frame below
StandsFor c program pool core (AtCall f i op word frames in_place) (Waits waiting) = StandAtCall c program pool op frames waiting
StandsFor c program pool core (PastCall f i op word place frames in_place) (Waits waiting) = StandAtCall c program pool op frames waiting
StandsFor c program pool core _ _ = ⊥

-- ---- with the globals

-- a thread over the areas stands for a source thread and these globals
pub record StandsForThread (c : Checked) (program : ProgramTree) (l : Local) (thread : SourceThread) (globals : List (List ℕ)) : Type 0 where
  pub rests : IsResting c l.areas.pool l.core
  pub stands : StandsFor c program l.areas.pool l.core rests thread
  pub globals_are : AreGlobals c.flat globals l.areas.globals

-- a thread over the areas stands for a thread of flat code with these frames, innermost first, and these globals
pub record StandsForFlatThread (c : Checked) (l : Local) (flats : List FlatFrame) (globals : List (List ℕ)) : Type 0 where
  pub rests : IsResting c l.areas.pool l.core
  pub stands : StandsForFlat c l.areas.pool l.core rests flats
  pub globals_are : AreGlobals c.flat globals l.areas.globals
