-- The frames of a thread as they are read from its chunks, one after another.
use Rattle.std.specs.Prelude.{◌≡◌, ◌⊎◌, ℕ, ◌-◌, List, ◌++◌, take, Some, slice_get}
use Rattle.chunk_pool.specs.Pool.{Pool}
use Rattle.flat_code.specs.Codes.{operation_at}
use Rattle.flat_code.specs.declared.operations.Op.{Op}
use Rattle.machine_world.specs.InPlace.{Frame, IsStack, HeadersName, frame_bytes, return_word}
use Rattle.machine_world.specs.Keys.{sites_of, key_of}
use Rattle.flat_code.specs.Frames.{site_in}
use Rattle.machine_world.specs.Local.{Core}
use Rattle.machine_world.specs.Places.{Checked, Place, InOperation, IsAt}
use Rattle.machine_world.specs.Rests.{IsAtCall, IsPastCall}
use Rattle.segment_run.specs.declared.walking.Frame.{Frame as ReadFrame}

-- an address is among the words of a call of function f at that site
pub record IsInCall (c : Checked) (address f site : ℕ) : Type 0 where
  pub operation : ℕ
  pub word : ℕ
  pub at : IsAt c address (InOperation f operation word)
  pub site_is : site_in (operation_at c.flat f operation) ≡ Some site

-- the data that was read is that of this frame, which is in place above the others
pub record IsReadOf (c : Checked) (pool : Pool) (frame : ReadFrame) (chain : List ℕ) (at : Frame) (below : List Frame) : Type 0 where
  pub function : at.function ≡ frame.function
  pub low : at.low ≡ frame.low
  pub chunk : at.chunk ≡ frame.chunk
  pub bytes : at.bytes ≡ frame_bytes c at.function
  pub returns : at.returns ≡ return_word c pool at.function at.chunk at.low
  pub stack : IsStack c pool chain at below
  pub front : slice_get chain 0 ≡ Some at.chunk
  pub headers : HeadersName pool chain

-- it is that of some frame
abbrev pub IsRead : Checked → Pool → ReadFrame → Type 0
IsRead c pool frame = (chain : List ℕ) × (at : Frame) × (below : List Frame) × IsReadOf c pool frame chain at below

-- a thread rests at or just after the ECALL of operation i of function f with these frames
abbrev pub IsAroundCall : (c : Checked) (pool : Pool) (core : Core) (f i : ℕ) (frames : List Frame) → Type 0
IsAroundCall c pool core f i frames = ((op : Op) × (word : ℕ) × IsAtCall c pool core f i op word frames)
    ⊎ ((op : Op) × (word : ℕ) × (place : Place) × IsPastCall c pool core f i op word place frames)

-- this number of sites of its key has been read, and the others follow from this frame
pub record IsWalked (c : Checked) (pool : Pool) (key : List ℕ) (frame : ReadFrame) (sites : List ℕ) (count : ℕ) : Type 0 where
  pub chain : List ℕ
  pub at : Frame
  pub below : List Frame
  pub is_read : IsReadOf c pool frame chain at below
  pub key_is : key ≡ take count sites ++ take (8 - count) (sites_of c below)

-- this holds of the key of each call at which the thread rests
abbrev pub AreWalked : Checked → Pool → Core → ReadFrame → List ℕ → ℕ → Type 0
AreWalked c pool core frame sites count = (f i : ℕ) (frames : List Frame) → IsAroundCall c pool core f i frames → IsWalked c pool (key_of c f i frames) frame sites count
