-- The effect of a ready operation on a thread.
use Rattle.std.specs.Prelude.{◌≡◌, ℕ, ◌%◌, ◌<◌, ◌≤◌, List, Option, Some, None, IfSome, slice_get}
use Rattle.decoded_code.specs.Ready.{place_at, ready_effect, DoesAs}
use Rattle.decoded_code.specs.declared.ready.Kind.{Kind}
use Rattle.decoded_code.specs.declared.ready.Ready.{Ready}
use Rattle.rv_machine.specs.Bytes.{Stored, with_stored}
use Rattle.rv_machine.specs.Rows.{Machine, Outcome, Goes, Asks, Fails}
use Rattle.stack_image.specs.Addresses.{code_start}
use Rattle.rv_machine.specs.Step.{outcome}
use Rattle.machine_world.specs.Areas.{Areas, byte_at, is_writable, with_byte}

-- the registers that it names
pub record HasRegisters (op : Ready) : Type 0 where
  pub writes : 0 < op.rd
  pub rd : op.rd < 32
  pub rs1 : op.rs1 < 32
  pub rs2 : op.rs2 < 32

-- the operation at an index of the code: its outcome is that of the machine's step there
pub record IsReadyIn (code : List ℕ) (at : ℕ) (op : Ready) : Type 0 where
  pub registers : HasRegisters op
  pub does : (m : Machine) → m.pc ≡ place_at at → IfSome (ready_effect op m) (λ found. outcome code m ≡ found)

-- the operation at an index does what one of a kind does
abbrev pub IsKindAt : List Ready → ℕ → Kind → Type 0
IsKindAt ready at kind = (op : Ready) → slice_get ready at ≡ Some op → DoesAs kind op.kind

-- the machine over the areas at an index of the code
abbrev pub machine_at : Areas → ℕ → List ℕ → Machine
machine_at areas at x = record { pc = place_at at; x = x; bytes = byte_at areas; writable = is_writable areas }

-- the outcome of a ready operation isn't a fault, and leads to an address of the code
abbrev pub GoesOn : Option Outcome → Type 0
GoesOn None = Unit {0}
GoesOn (Some (Goes pc x stored)) = (pc % 4 ≡ 0) × (code_start ≤ pc)
GoesOn (Some (Asks number)) = Unit {0}
GoesOn (Some (Fails kind)) = ⊥

-- it leads to an index, with these registers and areas
pub record WentOn (found : Option Outcome) (areas after : Areas) (next : ℕ) (x : List ℕ) : Type 0 where
  pub stored : Stored
  pub outcome : found ≡ Some (Goes (place_at next) x stored)
  pub memory : after ≡ with_stored with_byte stored areas
