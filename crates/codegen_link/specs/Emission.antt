-- The conditions under which words are written.
use Rattle.std.specs.Prelude.{ℕ, ◌≡◌, ◌<◌, ◌≤◌, List, [], length, map, slice_index, slice_index_or}
use Rattle.std.specs.List.{range_with_len}
use Rattle.flat_code.specs.declared.operations.Op.{Op}
use Rattle.flat_code.specs.Codes.{FlatCode}
use Rattle.call_graph.specs.Callees.{greatest}
use Rattle.checkpoint_place.specs.declared.plans.Plan.{Plan}
use Rattle.stack_certificate.specs.declared.certificates.Certificate.{Certificate}
use Rattle.stack_certificate.specs.declared.functions.FunctionFact.{FunctionFact}
use Rattle.stack_certificate.specs.Certificates.{global_address, table_address}
use Rattle.codegen_link.specs.Layout.{HasFacts, code_words}
use Rattle.codegen_link.specs.Plans.{IsPlanFor}

-- the function, table or global that an operation names exists
abbrev pub NamesThere : FlatCode → Op → Type 0
NamesThere code (Op.LoadGlobal d g) = g < length code.globals
NamesThere code (Op.StoreGlobal g s) = g < length code.globals
NamesThere code (Op.LoadArray d a i) = a < length code.globals
NamesThere code (Op.StoreArray a i s) = a < length code.globals
NamesThere code (Op.Call site d f args) = f < length code.functions
NamesThere code (Op.CallTable site d t i s) = t < length code.tables
NamesThere code (Op.Spawn site d f s) = f < length code.functions
NamesThere code _ = Unit {0}

-- the operation to which an operation jumps, among this number of operations, exists
abbrev pub JumpsInside : ℕ → Op → Type 0
JumpsInside count (Op.Jump to) = to < count
JumpsInside count (Op.JumpZero s to) = to < count
JumpsInside count _ = Unit {0}

-- the greatest bound of each table's members
abbrev pub AreNeeds : FlatCode → Plan → List ℕ → Type 0
AreNeeds code plan needs = needs ≡ map (greatest (slice_index plan.bounds)) code.tables

-- the certificate is that of the plan, the code has at most 200,000 words, and needs and addresses are those of the
-- program
pub record IsReady (code : FlatCode) (plan : Plan) (certificate : Certificate) (needs globals tables : List ℕ) : Type 0 where
  pub max_path : ℕ
  pub planned : IsPlanFor code plan max_path
  pub facts : HasFacts code plan certificate
  pub fits : code_words code plan ≤ 200000
  pub table_needs : AreNeeds code plan needs
  pub global_addresses : globals ≡ map (global_address code) (range_with_len 0 (length code.globals))
  pub table_addresses : tables ≡ map (table_address code) (range_with_len 0 (length code.tables))

-- the number at the index to which an operation jumps, if it jumps
abbrev pub target_in : List ℕ → Op → ℕ
target_in begins (Op.Jump to) = slice_index begins to
target_in begins (Op.JumpZero s to) = slice_index begins to
target_in begins _ = 0

-- the entry in the fact of function f, which exists
abbrev pub entry_in : List FunctionFact → ℕ → ℕ
entry_in facts f = (slice_index_or facts f (record { entry = 0; words = 0; frame = 0; ra = 0; bound = 0; places = [] })).entry
