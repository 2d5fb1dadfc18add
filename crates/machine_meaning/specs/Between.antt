-- A thread of flat code between a machine thread that rests and a source thread: the machine thread stands for it, and
-- it stands for the source thread.
use Rattle.std.specs.Prelude.{ℕ, List, [], ◌∷◌}
use Rattle.c_tree.specs.Trees.{ProgramTree}
use Rattle.chunk_pool.specs.Pool.{Pool}
use Rattle.flat_code.specs.Codes.{FlatCode}
use Rattle.flat_code.specs.Frames.{FlatFrame, FlatThread}
use Rattle.flat_code.specs.Step.{flat_resume}
use Rattle.machine_meaning.specs.StandsFor.{FrameStandsFor, FrameStartsAs, FramesStandFor}
use Rattle.machine_world.specs.Keys.{key_of}
use Rattle.machine_world.specs.Local.{Core}
use Rattle.machine_world.specs.Places.{Checked}
use Rattle.machine_world.specs.Rests.{IsResting, AtStart, AtCall, PastCall, StandsForFlat}
use Rattle.machine_world.specs.StandsFor.{SourceThread, Starts, Waits}

-- the frames of a thread of flat code, innermost first, stand for those of a source thread
abbrev pub FlatsStandFor : ProgramTree → List FlatFrame → SourceThread → Type 0
FlatsStandFor program [] thread = ⊥
FlatsStandFor program (flat ∷ flats) (Starts frame below) = FrameStartsAs program frame flat × FramesStandFor program below flats
FlatsStandFor program (flat ∷ flats) (Waits waiting) = FrameStandsFor program waiting.front flat × FramesStandFor program waiting.below flats

-- both rest in the same way: at a function's start, or at a modelled call
abbrev pub RestAlike : (c : Checked) (pool : Pool) (core : Core) → IsResting c pool core → SourceThread → Type 0
RestAlike c pool core (AtStart f frames in_place) (Starts frame below) = Unit {0}
RestAlike c pool core (AtCall f i op word frames in_place) (Waits waiting) = Unit {0}
RestAlike c pool core (PastCall f i op word place frames in_place) (Waits waiting) = Unit {0}
RestAlike c pool core _ _ = ⊥

-- a thread of flat code with these frames is between the two
pub record AreBetween (c : Checked) (program : ProgramTree) (pool : Pool) (core : Core) (rests : IsResting c pool core) (thread : SourceThread) (flats : List FlatFrame) : Type 0 where
  pub alike : RestAlike c pool core rests thread
  pub machine : StandsForFlat c pool core rests flats
  pub source : FlatsStandFor program flats thread

-- there is such a thread
abbrev pub HasBetween : (c : Checked) → ProgramTree → (pool : Pool) (core : Core) → IsResting c pool core → SourceThread → Type 0
HasBetween c program pool core rests thread = (flats : List FlatFrame) × AreBetween c program pool core rests thread flats

-- ---- continuing

-- a thread of flat code, at rest as a source thread is, continues with these globals, from its function's start or with
-- this word as the result of its modelled call
abbrev pub flat_going_on : FlatCode → SourceThread → FlatFrame → List FlatFrame → ℕ → List (List ℕ) → FlatThread
flat_going_on code (Starts frame below) flat flats result globals = record { frame = flat; below = flats; globals = globals }
flat_going_on code (Waits waiting) flat flats result globals = flat_resume code (record { frame = flat; below = flats }) (record { result = result; globals = globals })

-- ---- keys

-- the key of a machine thread that rests at or just after an ECALL; none at a function's start
abbrev pub resting_key : (c : Checked) (pool : Pool) (core : Core) → IsResting c pool core → List ℕ
resting_key c pool core (AtStart f frames in_place) = []
resting_key c pool core (AtCall f i op word frames in_place) = key_of c f i frames
resting_key c pool core (PastCall f i op word place frames in_place) = key_of c f i frames
