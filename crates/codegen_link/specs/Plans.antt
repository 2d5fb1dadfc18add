-- The chunks and plans for which code can be generated.
use Rattle.std.specs.Prelude.{ℕ, ◌≡◌, ◌+◌, ◌%◌, ◌<◌, ◌≤◌, length, slice_index, Some}
use Rattle.std.specs.List.Sorted.{IsStrictlyIncreasing}
use Rattle.flat_code.specs.declared.operations.Op.{Op}
use Rattle.flat_code.specs.Codes.{FlatCode, function_at, operation_at}
use Rattle.flat_code.specs.Weight.{weight_of}
use Rattle.checkpoint_place.specs.declared.plans.Plan.{Plan}
use Rattle.stack_certificate.specs.declared.sites.LinkKind.{LinkKind}
use Rattle.codegen_link.specs.declared.options.Options.{Options}
use Rattle.codegen_link.specs.Links.{link, need}

-- a chunk is a multiple of 16 from 64 to 65,536 bytes, and max path is at most the payload of a chunk
pub record AreInRange (options : Options) : Type 0 where
  pub aligned : options.chunk % 16 ≡ 0
  pub least : 64 ≤ options.chunk
  pub most : options.chunk ≤ 65536
  pub path : 16 ≤ options.max_path
  pub room : options.max_path + 16 ≤ options.chunk

-- a plan for a program: it has a bound for each function, its checkpointed numbers increase, no frame exceeds 2,032
-- bytes or its function's bound, no bound exceeds max path, and at each plain call the caller's frame plus the bound of
-- each callee is within the caller's bound
pub record IsPlanFor (code : FlatCode) (plan : Plan) (max_path : ℕ) : Type 0 where
  pub each : length plan.bounds ≡ length code.functions
  pub rising : IsStrictlyIncreasing plan.checkpointed
  pub frame : (f : ℕ) → f < length code.functions → weight_of (function_at code f).sizes ≤ 2032
  pub bound : (f : ℕ) → f < length code.functions → weight_of (function_at code f).sizes ≤ slice_index plan.bounds f
  pub most : (f : ℕ) → f < length code.functions → slice_index plan.bounds f ≤ max_path
  pub plain : (f i : ℕ) (op : Op) → f < length code.functions → operation_at code f i ≡ Some op → link code plan op ≡ LinkKind.Plain →
      weight_of (function_at code f).sizes + need code plan op ≤ slice_index plan.bounds f
