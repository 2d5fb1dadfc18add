-- Where a thread rests, and for which thread of flat code it then stands.
use Rattle.std.specs.Prelude.{◌≡◌, ℕ, ◌+◌, ◌*◌, ◌<◌, List, [], ◌∷◌, length, Option, Some, None, slice_index}
use Rattle.chunk_pool.specs.Pool.{Pool}
use Rattle.rv_machine.specs.Registers.{read}
use Rattle.flat_code.specs.declared.operations.Op.{Op}
use Rattle.flat_code.specs.Codes.{function_at, operation_at}
use Rattle.flat_code.specs.Frames.{FlatFrame, variable, pushed}
use Rattle.stack_certificate.specs.Certificates.{fact_at, need_of}
use Rattle.stack_certificate.specs.Templates.{kind_of, begin}
use Rattle.stack_certificate.specs.Registers.{a0, a1, a2, a7}
use Rattle.machine_world.specs.Local.{Core}
use Rattle.machine_world.specs.Places.{Checked, Place, InPrologue, InOperation}
use Rattle.machine_world.specs.InPlace.{Frame, HasFrames, word_in}

-- the first word of a variable in a frame, and its word k
abbrev pub variable_word : Checked → Pool → Frame → ℕ → ℕ → ℕ
variable_word c pool frame x k = word_in pool frame.chunk (frame.low + slice_index (fact_at c.certificate frame.function).places x + 4 * k)

-- ---- rest

-- the word of an operation that is the ECALL of a modelled call or of a spawn
abbrev pub ecall_word : Op → Option ℕ
ecall_word (Op.Model site d n args) = Some (length args + 1)
ecall_word (Op.Spawn site d f s) = Some 6
ecall_word _ = None

-- the arguments are in the registers from this one on
abbrev pub HoldArguments : Checked → Pool → Core → Frame → ℕ → List ℕ → Type 0
HoldArguments c pool core frame register [] = Unit {0}
HoldArguments c pool core frame register (x ∷ xs) =
    (read core.x register ≡ variable_word c pool frame x 0) × HoldArguments c pool core frame (register + 1) xs

-- the registers hold the values that the words before the ECALL put there
abbrev pub HoldsCall : Checked → Pool → Core → Frame → Op → Type 0
HoldsCall c pool core frame (Op.Model site d n args) = (read core.x a7 ≡ n) × HoldArguments c pool core frame a0 args
HoldsCall c pool core frame (Op.Spawn site d f s) =
    (read core.x a7 ≡ 4)
    × (read core.x a0 ≡ (fact_at c.certificate f).entry)
    × (read core.x a1 ≡ variable_word c pool frame s 0)
    × (read core.x a2 ≡ need_of (kind_of c.certificate (Op.Spawn site d f s)))
HoldsCall c pool core frame _ = ⊥

abbrev pub HoldsCallIn : Checked → Pool → Core → List Frame → Op → Type 0
HoldsCallIn c pool core [] op = ⊥
HoldsCallIn c pool core (frame ∷ below) op = HoldsCall c pool core frame op

-- at the ECALL of operation i of function f, with the call in the registers
pub record IsAtCall (c : Checked) (pool : Pool) (core : Core) (f i : ℕ) (op : Op) (word : ℕ) (frames : List Frame) : Type 0 where
  pub operation : operation_at c.flat f i ≡ Some op
  pub ecall : ecall_word op ≡ Some word
  pub frames_are : HasFrames c pool core (InOperation f i word) frames
  pub registers : HoldsCallIn c pool core frames op

-- at the word after that ECALL
pub record IsPastCall (c : Checked) (pool : Pool) (core : Core) (f i : ℕ) (op : Op) (word : ℕ) (place : Place) (frames : List Frame) : Type 0 where
  pub operation : operation_at c.flat f i ≡ Some op
  pub ecall : ecall_word op ≡ Some word
  pub pc : core.pc ≡ begin c.flat c.certificate f i + 4 * (word + 1)
  pub frames_are : HasFrames c pool core place frames

-- the three ways in which a thread rests
pub data IsResting (c : Checked) (pool : Pool) (core : Core) : Type 0 where
  AtStart : (f : ℕ) (frames : List Frame) → HasFrames c pool core (InPrologue f 0) frames → IsResting c pool core
  AtCall : (f i : ℕ) (op : Op) (word : ℕ) (frames : List Frame) → IsAtCall c pool core f i op word frames → IsResting c pool core
  PastCall : (f i : ℕ) (op : Op) (word : ℕ) (place : Place) (frames : List Frame) → IsPastCall c pool core f i op word place frames → IsResting c pool core

-- ---- standing for a thread of flat code

-- each variable that is set has its words at the certificate's place
abbrev pub HoldsVariables : Checked → Pool → Frame → FlatFrame → Type 0
HoldsVariables c pool frame flat =
    (x : ℕ) (words : List ℕ) → variable flat x ≡ Some words → (k : ℕ) → k < length words → variable_word c pool frame x k ≡ slice_index words k

-- a frame has the variables of its function, and each that is set has its declared number of words
pub record IsShaped (c : Checked) (flat : FlatFrame) : Type 0 where
  pub count : length flat.variables ≡ length (function_at c.flat flat.function).sizes
  pub words : (x : ℕ) (row : List ℕ) → variable flat x ≡ Some row → length row ≡ slice_index (function_at c.flat flat.function).sizes x

-- the same function at the same operation, with the same variables
pub record IsFlatFrame (c : Checked) (pool : Pool) (frame : Frame) (flat : FlatFrame) : Type 0 where
  pub function : frame.function ≡ flat.function
  pub operation : frame.operation ≡ flat.next
  pub shape : IsShaped c flat
  pub variables : HoldsVariables c pool frame flat

abbrev pub AreFlatFrames : Checked → Pool → List Frame → List FlatFrame → Type 0
AreFlatFrames c pool [] [] = Unit {0}
AreFlatFrames c pool (frame ∷ frames) (flat ∷ flats) = IsFlatFrame c pool frame flat × AreFlatFrames c pool frames flats
AreFlatFrames c pool _ _ = ⊥

-- at a function's first word its frame is the one that a call with these arguments pushes, and the arguments are in the
-- argument registers
pub record IsFlatStart (c : Checked) (core : Core) (frame : Frame) (flat : FlatFrame) : Type 0 where
  pub arguments : List ℕ
  pub count : length arguments ≡ (function_at c.flat frame.function).params
  pub pushed_so : flat ≡ pushed c.flat frame.function arguments
  pub registers : (k : ℕ) → k < length arguments → slice_index arguments k ≡ read core.x (a0 + k)

abbrev pub AreFlatAtStart : Checked → Pool → Core → List Frame → List FlatFrame → Type 0
AreFlatAtStart c pool core (frame ∷ frames) (flat ∷ flats) = IsFlatStart c core frame flat × AreFlatFrames c pool frames flats
AreFlatAtStart c pool core _ _ = ⊥

-- just after the ECALL of operation i the current operation of its frame is still that one, whose result is yet to come
pub record IsFlatPast (c : Checked) (pool : Pool) (i : ℕ) (frame : Frame) (flat : FlatFrame) : Type 0 where
  pub function : frame.function ≡ flat.function
  pub operation : flat.next ≡ i
  pub shape : IsShaped c flat
  pub variables : HoldsVariables c pool frame flat

abbrev pub AreFlatPast : Checked → Pool → ℕ → List Frame → List FlatFrame → Type 0
AreFlatPast c pool i (frame ∷ frames) (flat ∷ flats) = IsFlatPast c pool i frame flat × AreFlatFrames c pool frames flats
AreFlatPast c pool i _ _ = ⊥

-- the frames of a thread that rests are those of a thread of flat code, innermost first
abbrev pub StandsForFlat : (c : Checked) (pool : Pool) (core : Core) → IsResting c pool core → List FlatFrame → Type 0
StandsForFlat c pool core (AtStart f frames in_place) flats = AreFlatAtStart c pool core frames flats
StandsForFlat c pool core (AtCall f i op word frames in_place) flats = AreFlatFrames c pool frames flats
StandsForFlat c pool core (PastCall f i op word place frames in_place) flats = AreFlatPast c pool i frames flats
