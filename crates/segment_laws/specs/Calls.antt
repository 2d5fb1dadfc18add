-- Calls and returns: what the rules of a certificate say of them, and the conclusions of their laws.
use Rattle.std.specs.Prelude.{◌≡◌, ℕ, ◌+◌, ◌*◌, ◌%◌, ◌<◌, ◌≤◌, true, List, length, Some, None, Contains, slice_index}
use Rattle.cap_word.specs.Calls.{Finish}
use Rattle.cap_word.specs.Runs.{Stops}
use Rattle.flat_code.specs.Codes.{function_at, operation_at, members_of}
use Rattle.flat_code.specs.Frames.{FlatThread}
use Rattle.flat_code.specs.declared.operations.Op.{Op}
use Rattle.stack_certificate.specs.declared.sites.LinkKind.{LinkKind}
use Rattle.stack_certificate.specs.Certificates.{fact_at}
use Rattle.stack_certificate.specs.Templates.{kind_of}
use Rattle.machine_world.specs.Areas.{Areas}
use Rattle.machine_world.specs.Globals.{AreGlobals}
use Rattle.machine_world.specs.InPlace.{Calls}
use Rattle.machine_world.specs.Local.{Local, Ended, NoRoom}
use Rattle.machine_world.specs.Places.{Checked}
use Rattle.segment_laws.specs.Simulation.{Reaches}
use Rattle.segment_laws.specs.Ways.{ComesTo}

-- the entry of a function, its parameters, and that its frame lies within its bound
pub record EntryFacts (c : Checked) (f : ℕ) : Type 0 where
  pub bound : (fact_at c.certificate f).frame ≤ (fact_at c.certificate f).bound
  pub low : 4104 ≤ (fact_at c.certificate f).entry
  pub room : (fact_at c.certificate f).entry + 4 * (2 + (function_at c.flat f).params) ≤ 804096
  pub most : (function_at c.flat f).params ≤ 6
  pub parameter : (x : ℕ) → x < (function_at c.flat f).params → (x < length (function_at c.flat f).sizes) × (slice_index (function_at c.flat f).sizes x ≡ 1)

-- at a plain site the callee's bound fits below the caller's frame, and at a linked one it is within the need
pub record CallFacts (c : Checked) : Type 0 where
  pub entries : (f : ℕ) → f < length c.flat.functions → EntryFacts c f
  pub aligned : (f : ℕ) → f < length c.flat.functions → (fact_at c.certificate f).entry % 4 ≡ 0
  pub plain : (f i g : ℕ) (op : Op) → f < length c.flat.functions → operation_at c.flat f i ≡ Some op → Calls c.flat op g → kind_of c.certificate op ≡ LinkKind.Plain →
      (fact_at c.certificate f).frame + (fact_at c.certificate g).bound ≤ (fact_at c.certificate f).bound
  pub linked : (f i g need : ℕ) (op : Op) → f < length c.flat.functions → operation_at c.flat f i ≡ Some op → Calls c.flat op g → kind_of c.certificate op ≡ LinkKind.Linked need →
      (fact_at c.certificate g).bound ≤ need
  pub not_spawned : (f i g need : ℕ) (op : Op) → f < length c.flat.functions → operation_at c.flat f i ≡ Some op → Calls c.flat op g → kind_of c.certificate op ≡ LinkKind.Spawned need → ⊥
  pub need_small : (f i g need : ℕ) (op : Op) → f < length c.flat.functions → operation_at c.flat f i ≡ Some op → Calls c.flat op g → kind_of c.certificate op ≡ LinkKind.Linked need → need ≤ 65536
  -- a member of a table gives a result
  pub members_give : (t g : ℕ) → Contains (members_of c.flat t) g → (function_at c.flat g).gives ≡ true

-- the machine stands for the thread in the called function, or finds no chunk for it
pub data CallsAlike (c : Checked) (code : List ℕ) (l : Local) (after : FlatThread) : Type 0 where
  Enters : (reaches : Reaches c code l after) → CallsAlike c code l after
  FindsNoRoom : (n : ℕ) (comes : ComesTo c code n l (Stops NoRoom)) → CallsAlike c code l after

-- the machine ends, and so does the flat thread, with the same globals
pub record EndsAlike (c : Checked) (code : List ℕ) (l : Local) (t : FlatThread) (finish : Finish) : Type 0 where
  pub count : ℕ
  pub areas : Areas
  pub comes : ComesTo c code count l (Stops (Ended areas))
  pub finish_is : finish ≡ record { trap = None; globals = t.globals }
  pub globals : AreGlobals c.flat t.globals areas.globals
