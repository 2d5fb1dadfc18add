-- When a machine thread stands for a flat thread, between two operations and within one.
use Rattle.std.specs.Prelude.{◌≡◌, ℕ, suc, ◌+◌, ◌*◌, List, ◌∷◌}
use Rattle.chunk_pool.specs.Pool.{Pool, payload_place_of}
use Rattle.rv_machine.specs.Registers.{read}
use Rattle.flat_code.specs.Frames.{FlatThread}
use Rattle.stack_certificate.specs.Templates.{begin}
use Rattle.machine_world.specs.Globals.{AreGlobals}
use Rattle.machine_world.specs.InPlace.{Frame, frame_bytes, return_word, IsStack, HeadersName}
use Rattle.stack_certificate.specs.Registers.{sp, tp}
use Rattle.machine_world.specs.Local.{Local}
use Rattle.machine_world.specs.Places.{Checked}
use Rattle.machine_world.specs.Rests.{HoldsVariables, IsShaped, AreFlatFrames}
use Rattle.segment_laws.specs.Ways.{HasForm, Leads}

-- the chain has this chunk in front
pub record IsFront (chain : List ℕ) (chunk : ℕ) : Type 0 where
  pub rest : List ℕ
  pub is : chain ≡ chunk ∷ rest

-- the running frame of a thread in operation i of function f
pub record IsBody (c : Checked) (pool : Pool) (f i : ℕ) (frame : Frame) : Type 0 where
  pub function : frame.function ≡ f
  pub operation : frame.operation ≡ i
  pub bytes : frame.bytes ≡ frame_bytes c f
  pub returns : frame.returns ≡ return_word c pool f frame.chunk frame.low

-- the thread is at word w of operation i of function f, with these frames
pub record Inside (c : Checked) (l : Local) (f i w : ℕ) (frame : Frame) (below : List Frame) : Type 0 where
  pub form : HasForm c l
  pub pc : l.core.pc ≡ begin c.flat c.certificate f i + 4 * w
  pub sp_is : read l.core.x sp ≡ frame.low
  pub tp_is : read l.core.x tp ≡ payload_place_of l.areas.pool frame.chunk
  pub front : IsFront l.core.chain frame.chunk
  pub body : IsBody c l.areas.pool f i frame
  pub stack : IsStack c l.areas.pool l.core.chain frame below
  pub headers : HeadersName l.areas.pool l.core.chain

-- the machine thread is at word w of the current operation of a flat thread, and has set nothing yet
pub record During (c : Checked) (l : Local) (t : FlatThread) (w : ℕ) (frame : Frame) (below : List Frame) : Type 0 where
  pub inside : Inside c l t.frame.function t.frame.next w frame below
  pub shape : IsShaped c t.frame
  pub variables : HoldsVariables c l.areas.pool frame t.frame
  pub flats : AreFlatFrames c l.areas.pool below t.below
  pub globals : AreGlobals c.flat t.globals l.areas.globals

-- it stands for the flat thread at the operation's first word
pub record Simulates (c : Checked) (l : Local) (t : FlatThread) : Type 0 where
  pub frame : Frame
  pub below : List Frame
  pub during : During c l t 0 frame below

-- one or more good steps lead to a thread that stands for this flat thread
pub record Reaches (c : Checked) (code : List ℕ) (l : Local) (t : FlatThread) : Type 0 where
  pub steps : ℕ
  pub after : Local
  pub leads : Leads c code (suc steps) l after
  pub simulates : Simulates c after t
