-- Frames in place: the frames of a thread, innermost first, their places in the chunks of its chain, and their return
-- addresses.
--
--   chain:  front ──────────► second ──────────► ..  ──► the thread's first chunk
--   frames: running, .. first of front │ .. first of second │ .. last frame
--
-- The first frame of a chunk ends at the chunk's end. The frame after it starts at the sp that the chunk's header
-- saved, in the next chunk of the chain; the frame after any other one starts where that one ends.
use Rattle.std.specs.Prelude.{◌≡◌, ℕ, ◌+◌, ◌-◌, ◌*◌, ◌/◌, ◌<◌, ◌≤◌, ◌⊎◌, Bool, true, false, List, [], ◌∷◌, length, Option, Some, None, nat_eq, slice_get, Contains}
use Rattle.chunk_pool.specs.Pool.{Pool, word_of, place_of, end_of, payload_place_of}
use Rattle.rv_machine.specs.Access.{Access}
use Rattle.rv_machine.specs.Registers.{read}
use Rattle.flat_code.specs.declared.operations.Op.{Op}
use Rattle.flat_code.specs.Codes.{FlatCode, operation_at, members_of}
use Rattle.stack_certificate.specs.Certificates.{fact_at, global_address, table_address, global_words, member_count}
use Rattle.stack_certificate.specs.Templates.{kind_of, begin}
use Rattle.stack_certificate.specs.Registers.{ra, sp, tp}
use Rattle.stack_image.specs.Addresses.{code_start}
use Rattle.machine_world.specs.Local.{Core, saved_tp, saved_sp}
use Rattle.machine_world.specs.Places.{Checked, Place, IsAt, before_transfer, through_call, Row, NoFrame, Empty, Fresh, Linking, Whole, row_of, function_of, operation_of}

-- a frame: its function, its current operation, its chunk, its lowest address, its bytes, its return address, and
-- whether it is the first of its chunk
pub record Frame : Type 0 where
  pub function : ℕ
  pub operation : ℕ
  pub chunk : ℕ
  pub low : ℕ
  pub bytes : ℕ
  pub returns : ℕ
  pub is_first : Bool

-- the word of a chunk at an address
abbrev pub word_in : Pool → ℕ → ℕ → ℕ
word_in pool chunk address = word_of pool chunk ((address - place_of pool chunk) / 4)

-- the bytes of a function's frame, and the word at the place of the return address in such a frame
abbrev pub frame_bytes : Checked → ℕ → ℕ
frame_bytes c f = (fact_at c.certificate f).frame

abbrev pub return_word : Checked → Pool → ℕ → ℕ → ℕ → ℕ
return_word c pool f chunk low = word_in pool chunk (low + (fact_at c.certificate f).ra)

-- ---- one frame

-- a frame: it lies in the payload of its chunk, there are at least its function's bound of bytes from the payload's
-- start to its end, and it is the first of its chunk exactly if it ends at the chunk's end
pub record IsFrame (c : Checked) (pool : Pool) (frame : Frame) : Type 0 where
  pub function : frame.function < length c.flat.functions
  pub chunk : frame.chunk < pool.count
  pub lowest : payload_place_of pool frame.chunk ≤ frame.low
  pub highest : frame.low + frame.bytes ≤ end_of pool frame.chunk
  pub bound : payload_place_of pool frame.chunk + (fact_at c.certificate frame.function).bound ≤ frame.low + frame.bytes
  pub first : frame.is_first ≡ nat_eq (frame.low + frame.bytes) (end_of pool frame.chunk)

-- ---- a frame and the one below it

-- the operation calls the function
abbrev pub Calls : FlatCode → Op → ℕ → Type 0
Calls code (Op.Call site d g args) f = g ≡ f
Calls code (Op.CallTable site d t i s) f = Contains (members_of code t) f
Calls code _ f = ⊥

-- the number of words of a call operation up to and including the call instruction
abbrev pub joined : Option ℕ → Option ℕ → Option ℕ
joined (Some a) (Some b) = Some (a + b)
joined (Some a) None = None
joined None b = None

abbrev pub words_through_call : Checked → Bool → Op → Option ℕ
words_through_call c second op = joined (before_transfer op) (through_call (kind_of c.certificate op) second)

-- a frame returns to just after a call instruction of an operation that calls its function: the second one of a linked
-- transfer exactly if it is the first of its chunk
abbrev pub ReturnsInto : Checked → Frame → Frame → Option Op → Type 0
ReturnsInto c frame below None = ⊥
ReturnsInto c frame below (Some op) =
    Calls c.flat op frame.function
    × ((words : ℕ) × (words_through_call c frame.is_first op ≡ Some words) × (frame.returns ≡ begin c.flat c.certificate below.function below.operation + 4 * words))

-- the chain from the chunk of the next frame on, and the lowest address of that frame
abbrev pub chain_below : Bool → List ℕ → List ℕ
chain_below true [] = []
chain_below true (chunk ∷ chain) = chain
chain_below false chain = chain

abbrev pub low_below : Pool → Bool → Frame → ℕ
low_below pool true frame = saved_sp pool frame.chunk
low_below pool false frame = frame.low + frame.bytes

-- the frame below a frame: it is in the next chunk of the chain or in the same chunk, begins where the other ends or at
-- the saved sp, and its operation calls the other's function
pub record IsAbove (c : Checked) (pool : Pool) (chain : List ℕ) (frame below : Frame) : Type 0 where
  pub chunk : slice_get (chain_below frame.is_first chain) 0 ≡ Some below.chunk
  pub low : below.low ≡ low_below pool frame.is_first frame
  pub bytes : below.bytes ≡ frame_bytes c below.function
  pub returns : below.returns ≡ return_word c pool below.function below.chunk below.low
  pub called : ReturnsInto c frame below (operation_at c.flat below.function below.operation)

-- a frame and those below it, in the chain from its chunk on. The last frame is the first of the thread's first chunk
-- and returns to the end stub.
abbrev pub IsStack : Checked → Pool → List ℕ → Frame → List Frame → Type 0
IsStack c pool chain frame [] = IsFrame c pool frame × (chain ≡ frame.chunk ∷ []) × (frame.is_first ≡ true) × (frame.returns ≡ code_start)
IsStack c pool chain frame (below ∷ frames) =
    IsFrame c pool frame × IsAbove c pool chain frame below × IsStack c pool (chain_below frame.is_first chain) below frames

-- ---- the running frame

-- the running frame at a place, in the front chunk, with this number of bytes
pub record IsRunning (place : Place) (core : Core) (chunk low bytes returns : ℕ) (frame : Frame) : Type 0 where
  pub function : frame.function ≡ function_of place
  pub operation : frame.operation ≡ operation_of place
  pub chunk_is : frame.chunk ≡ chunk
  pub low_is : frame.low ≡ low
  pub bytes_are : frame.bytes ≡ bytes
  pub returns_are : frame.returns ≡ returns

-- the place and the return address of the running frame, by the row of the table, and the frames below it
abbrev pub FramesAt : Checked → Pool → Core → Place → Row → List ℕ → List Frame → Type 0
FramesAt c pool core place NoFrame (chunk ∷ []) [] = (chunk < pool.count) × (read core.x sp ≡ end_of pool chunk)
FramesAt c pool core place Empty (chunk ∷ chain) (frame ∷ below) =
    IsRunning place core chunk (read core.x sp) 0 (read core.x ra) frame × IsStack c pool (chunk ∷ chain) frame below
FramesAt c pool core place Fresh (chunk ∷ chain) (frame ∷ below) =
    IsRunning place core chunk (read core.x sp) (frame_bytes c (function_of place)) (read core.x ra) frame × IsStack c pool (chunk ∷ chain) frame below
FramesAt c pool core place Whole (chunk ∷ chain) (frame ∷ below) =
    IsRunning place core chunk (read core.x sp) (frame_bytes c (function_of place)) (return_word c pool (function_of place) chunk (read core.x sp)) frame
    × IsStack c pool (chunk ∷ chain) frame below
FramesAt c pool core place Linking (linked ∷ chunk ∷ chain) (frame ∷ below) =
    (linked < pool.count) × (read core.x sp ≡ end_of pool linked)
    × IsRunning place core chunk (saved_sp pool linked) (frame_bytes c (function_of place)) (return_word c pool (function_of place) chunk (saved_sp pool linked)) frame
    × IsStack c pool (chunk ∷ chain) frame below
FramesAt c pool core place _ _ _ = ⊥

-- ---- the chain

-- each header names the payload of the next chunk; nothing is saved in the thread's first chunk
abbrev pub HeadersName : Pool → List ℕ → Type 0
HeadersName pool [] = ⊥
HeadersName pool (chunk ∷ []) = (saved_tp pool chunk ≡ 0) × (saved_sp pool chunk ≡ 0)
HeadersName pool (chunk ∷ next ∷ chain) = (saved_tp pool chunk ≡ payload_place_of pool next) × HeadersName pool (next ∷ chain)

abbrev pub TpIsFront : Pool → Core → List ℕ → Type 0
TpIsFront pool core [] = ⊥
TpIsFront pool core (chunk ∷ chain) = read core.x tp ≡ payload_place_of pool chunk

-- ---- a thread

-- the thread is at the place and has these frames
pub record HasFrames (c : Checked) (pool : Pool) (core : Core) (place : Place) (frames : List Frame) : Type 0 where
  pub at : IsAt c core.pc place
  pub frames_are : FramesAt c pool core place (row_of c place) core.chain frames
  pub front : TpIsFront pool core core.chain
  pub headers : HeadersName pool core.chain

-- a thread is in place
abbrev pub IsInPlace : Checked → Pool → Core → Type 0
IsInPlace c pool core = (place : Place) × (frames : List Frame) × HasFrames c pool core place frames

-- ---- accesses

-- the access lies wholly between two addresses
abbrev pub LiesIn : Access → ℕ → ℕ → Type 0
LiesIn access low high = (low ≤ access.address) × (access.address + access.width ≤ high)

-- the access lies in the running frame
abbrev pub IsFramed : Access → List Frame → Type 0
IsFramed access [] = ⊥
IsFramed access (frame ∷ below) = LiesIn access frame.low (frame.low + frame.bytes)

-- the access lies in one declared global, or in one declared table
abbrev pub IsInGlobal : Checked → Access → Type 0
IsInGlobal c access = (g : ℕ) × (g < length c.flat.globals) × LiesIn access (global_address c.flat g) (global_address c.flat g + 4 * global_words c.flat g)

abbrev pub IsInTable : Checked → Access → Type 0
IsInTable c access = (t : ℕ) × (t < length c.flat.tables) × LiesIn access (table_address c.flat t) (table_address c.flat t + 4 * member_count c.flat t)

-- the access, if there is one, lies in the running frame, in one declared global or in one declared table
abbrev pub IsGoodAccess : Checked → List Frame → Option Access → Type 0
IsGoodAccess c frames None = Unit {0}
IsGoodAccess c frames (Some access) = IsFramed access frames ⊎ IsInGlobal c access ⊎ IsInTable c access
