-- The thread of the machine world for a context, and what it needs to run.
use Rattle.std.specs.Prelude.{◌≡◌, ◌≢◌, ℕ, zero, suc, List, [], ◌∷◌, length, All, Ok, nat_eq}
use Rattle.std.specs.List.{IsDistinct}
use Rattle.rv_code.specs.declared.instructions.Instr.{Instr}
use Rattle.rv_machine.specs.Step.{instruction_at}
use Rattle.chunk_pool.specs.Pool.{Pool, IsHeld, chunk_at, first_bytes}
use Rattle.c_lower.specs.ProgramCode.{lowered}
use Rattle.accepted_pairs.specs.Accepting.{accepted_tree}
use Rattle.accepted_pairs.specs.declared.accepted.Accepted.{Accepted}
use Rattle.machine_world.specs.Areas.{Areas}
use Rattle.machine_world.specs.Local.{Core, Local, saved_tp}
use Rattle.machine_world.specs.Places.{Checked}
use Rattle.machine_world.specs.Rests.{IsResting}
use Rattle.segment_run.specs.declared.contexts.Context.{Context}
use Rattle.std.specs.Option.{unwrap_or}

-- the flat code of an accepted program with its certificate, and its machine code
abbrev pub checked_of : Accepted → Checked
checked_of accepted = record { flat = lowered (accepted_tree accepted); certificate = accepted.certificate }

abbrev pub code_of : Accepted → List ℕ
code_of accepted = accepted.image.code

-- the chunk below a chunk, which has the tp that is saved in its header; the chunk itself if none has
abbrev pub chunk_below : Pool → ℕ → ℕ
chunk_below pool chunk = unwrap_or (chunk_at pool (saved_tp pool chunk)) chunk

-- n chunks from one on, as the headers name them
abbrev pub chain_from : Pool → ℕ → ℕ → List ℕ
chain_from pool chunk zero = []
chain_from pool chunk (suc n) = chunk ∷ chain_from pool (chunk_below pool chunk) n

-- the thread of a context
abbrev pub core_of : Pool → Context → Core
core_of pool context = record { pc = context.pc; x = context.x; chain = chain_from pool context.chunk context.depth }

abbrev pub local_of : Areas → Context → Local
local_of areas context = record { areas = areas; core = core_of areas.pool context }

-- the areas are those of an accepted program: they have the image's table words, as many global words as the image, and
-- chunks of the certificate's size as those of the first size
pub record AreOf (accepted : Accepted) (areas : Areas) : Type 0 where
  pub chunk : first_bytes areas.pool ≡ accepted.certificate.chunk
  pub globals : length areas.globals ≡ length accepted.image.globals
  pub tables : areas.tables ≡ accepted.image.tables

-- the chunks of a chain are held and distinct
pub record IsOwned (pool : Pool) (chain : List ℕ) : Type 0 where
  pub held : All (IsHeld pool) chain
  pub distinct : IsDistinct nat_eq chain

-- a thread that rests on its own chunks and isn't at an ECALL
pub record IsReady (c : Checked) (code : List ℕ) (l : Local) : Type 0 where
  pub owned : IsOwned l.areas.pool l.core.chain
  pub rests : IsResting c l.areas.pool l.core
  pub behind : instruction_at code l.core.pc ≢ Ok Instr.Ecall
