-- Operations that ask the world: the machine thread rests at their ECALL, asks the flat thread's call, and continues
-- with the result.
use Rattle.std.specs.Prelude.{◌≡◌, ℕ, ◌+◌, List, ◌∷◌, length, Option}
use Rattle.cap_word.specs.Calls.{Call, Question, spawn_of}
use Rattle.cap_word.specs.Runs.{Asks}
use Rattle.flat_code.specs.declared.operations.Op.{Op}
use Rattle.flat_code.specs.Frames.{FlatThread, FlatWaiting}
use Rattle.stack_certificate.specs.Certificates.{fact_at, need_of}
use Rattle.stack_certificate.specs.Templates.{kind_of}
use Rattle.machine_world.specs.InPlace.{Frame}
use Rattle.machine_world.specs.Local as local
use Rattle.machine_world.specs.Local.{Local, local_step}
use Rattle.machine_world.specs.Places.{Checked}
use Rattle.machine_world.specs.Rests.{IsAtCall}
use Rattle.segment_laws.specs.Simulation.{During, Simulates}
use Rattle.segment_laws.specs.Ways.{IsGoodState, Leads}

-- some good steps, possibly none, lead to a thread that stands for this flat thread
pub record Arrives (c : Checked) (code : List ℕ) (l : Local) (t : FlatThread) : Type 0 where
  pub steps : ℕ
  pub after : Local
  pub leads : Leads c code steps l after
  pub simulates : Simulates c after t

-- the thread rests at its ECALL and asks
pub record AtAsk (c : Checked) (code : List ℕ) (l : Local) (t : FlatThread) (op : Op) (word : ℕ) (question : local.Question) (frame : Frame) (below : List Frame) : Type 0 where
  pub steps : ℕ
  pub at : Local
  pub leads : Leads c code steps l at
  pub during : During c at t word frame below
  pub rests : IsAtCall c at.areas.pool at.core t.frame.function t.frame.next op word (frame ∷ below)
  pub good : IsGoodState c code at
  pub asks : local_step code at ≡ Asks question at
  pub areas : at.areas ≡ l.areas

-- the machine rests at the ECALL of the operation and asks the flat thread's call, with the same globals
pub record AsksAlike (c : Checked) (code : List ℕ) (l : Local) (t : FlatThread) (site n : ℕ) (d : Option ℕ) (args : List ℕ) (q : Question) (w : FlatWaiting) (simulates : Simulates c l t) : Type 0 where
  pub call : Call
  pub question : q ≡ record { call = call; globals = t.globals }
  pub waiting : w ≡ record { frame = t.frame; below = t.below }
  pub at : AtAsk c code l t (Op.Model site d n args) (length args + 1) (local.Calls call) simulates.frame simulates.below

-- a spawn asks for a thread at its function's entry, on a chunk for the need
pub record StartsAlike (c : Checked) (code : List ℕ) (l : Local) (t : FlatThread) (site : ℕ) (d : Option ℕ) (g x : ℕ) (q : Question) (w : FlatWaiting) (simulates : Simulates c l t) : Type 0 where
  pub argument : ℕ
  pub question : q ≡ record { call = spawn_of g argument; globals = t.globals }
  pub waiting : w ≡ record { frame = t.frame; below = t.below }
  pub at : AtAsk c code l t (Op.Spawn site d g x) 6 (local.Starts (fact_at c.certificate g).entry argument (need_of (kind_of c.certificate (Op.Spawn site d g x)))) simulates.frame simulates.below
