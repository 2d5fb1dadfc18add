-- What the rules of a certificate say of a program's code, in the forms that the laws of single operations use.
use Rattle.std.specs.Prelude.{◌≡◌, ℕ, ◌+◌, ◌*◌, ◌%◌, ◌<◌, ◌≤◌, List, length, slice_get, slice_index, sum, Some, Ok}
use Rattle.rv_code.specs.declared.instructions.Instr.{Instr}
use Rattle.rv_machine.specs.Step.{instruction_at}
use Rattle.flat_code.specs.declared.operations.Op.{Op}
use Rattle.flat_code.specs.Codes.{function_at, operation_at}
use Rattle.flat_code.specs.WellFormed.{IsOperation, context_of}
use Rattle.stack_certificate.specs.Certificates.{fact_at}
use Rattle.stack_certificate.specs.Templates.{prologue, end_stub, row, setting, begin, size, kind_of}
use Rattle.stack_image.specs.Addresses.{code_start}
use Rattle.machine_world.specs.Globals.{global_widths}
use Rattle.machine_world.specs.Places.{Checked}
use Rattle.machine_world.specs.WellFormed.{member_entries}

-- the places of the variables' words and of the return address in a frame of function f
pub record FrameFacts (c : Checked) (f : ℕ) : Type 0 where
  pub aligned : (fact_at c.certificate f).frame % 16 ≡ 0
  pub least : 16 ≤ (fact_at c.certificate f).frame
  pub most : (fact_at c.certificate f).frame ≤ 2032
  pub place_aligned : (x : ℕ) → x < length (function_at c.flat f).sizes → slice_index (fact_at c.certificate f).places x % 4 ≡ 0
  pub place_inside : (x : ℕ) → x < length (function_at c.flat f).sizes →
      slice_index (fact_at c.certificate f).places x + 4 * slice_index (function_at c.flat f).sizes x ≤ (fact_at c.certificate f).frame
  pub places_apart : (x y j k : ℕ) → x < length (function_at c.flat f).sizes → y < length (function_at c.flat f).sizes → (x ≡ y → ⊥) →
      j < slice_index (function_at c.flat f).sizes x → k < slice_index (function_at c.flat f).sizes y →
      slice_index (fact_at c.certificate f).places x + 4 * j ≡ slice_index (fact_at c.certificate f).places y + 4 * k → ⊥
  pub ra_aligned : (fact_at c.certificate f).ra % 4 ≡ 0
  pub ra_inside : (fact_at c.certificate f).ra + 4 ≤ (fact_at c.certificate f).frame
  pub ra_apart : (x j : ℕ) → x < length (function_at c.flat f).sizes → j < slice_index (function_at c.flat f).sizes x →
      slice_index (fact_at c.certificate f).places x + 4 * j ≡ (fact_at c.certificate f).ra → ⊥

-- operation i of function f exists: its words are in the code, and its numbers are in range
pub record IsOperationAt (c : Checked) (code : List ℕ) (f i : ℕ) (op : Op) : Type 0 where
  pub function : f < length c.flat.functions
  pub there : operation_at c.flat f i ≡ Some op
  pub formed : IsOperation (context_of c.flat (function_at c.flat f)) op
  pub fetch : (w : ℕ) (instr : Instr) → slice_get (row (fact_at c.certificate f) (function_at c.flat f).sizes (setting c.flat c.certificate f (begin c.flat c.certificate f i) op) op) w ≡ Some instr →
      instruction_at code (begin c.flat c.certificate f i + 4 * w) ≡ Ok instr
  pub next : begin c.flat c.certificate f (i + 1) ≡ begin c.flat c.certificate f i + 4 * size (function_at c.flat f).sizes (kind_of c.certificate op) op
  pub aligned : begin c.flat c.certificate f i % 4 ≡ 0
  pub low : 4104 ≤ begin c.flat c.certificate f i
  pub room : begin c.flat c.certificate f i + 4 * size (function_at c.flat f).sizes (kind_of c.certificate op) op ≤ 804096

-- what holds of the whole program
pub record CodeFacts (c : Checked) (code : List ℕ) : Type 0 where
  pub operation : (f i : ℕ) (op : Op) → f < length c.flat.functions → operation_at c.flat f i ≡ Some op → IsOperationAt c code f i op
  pub frame : (f : ℕ) → f < length c.flat.functions → FrameFacts c f
  pub prologue_fetch : (f w : ℕ) (instr : Instr) → f < length c.flat.functions → slice_get (prologue (fact_at c.certificate f) (function_at c.flat f).params) w ≡ Some instr →
      instruction_at code ((fact_at c.certificate f).entry + 4 * w) ≡ Ok instr
  pub stub_fetch : (w : ℕ) (instr : Instr) → slice_get end_stub w ≡ Some instr → instruction_at code (code_start + 4 * w) ≡ Ok instr
  -- an array that is zeroed has a word: the lowering of a source makes no other
  pub zeroed : (f i a : ℕ) → f < length c.flat.functions → operation_at c.flat f i ≡ Some (Op.Zero a) → 0 < slice_index (function_at c.flat f).sizes a
  pub globals_small : sum (global_widths c.flat) ≤ 65536
  pub tables_small : length (member_entries c) ≤ 65536
