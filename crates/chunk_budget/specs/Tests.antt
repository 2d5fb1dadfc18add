-- The numbers of which the checker takes the least: sites at which a call isn't covered, and first functions of threads
-- that are too high.
use Rattle.std.specs.Prelude.{ℕ, ◌+◌, Bool, nat_le, nat_lt, if◌then◌else◌, Option, Some, None, List}
use Rattle.call_graph.specs.Callees.{greatest}
use Rattle.flat_code.specs.declared.operations.Op.{Op}
use Rattle.flat_code.specs.Codes.{FlatCode, members_of}
use Rattle.stack_certificate.specs.declared.certificates.Certificate.{Certificate}
use Rattle.stack_certificate.specs.declared.sites.LinkKind.{LinkKind}
use Rattle.stack_certificate.specs.Templates.{kind_of}
use Rattle.chunk_budget.specs.Budgets.{height_of, chunks_added}

-- the greatest height of some functions, or 0 if there are none
abbrev pub highest : List ℕ → List ℕ → ℕ
highest heights functions = greatest (height_of heights) functions

-- a number, unless the test holds
abbrev pub unless : Bool → ℕ → Option ℕ
unless holds number = if holds then None else Some number

-- the site of a call between functions of these heights, if the callee's is too high
abbrev pub low_call : ℕ → ℕ → ℕ → LinkKind → Option ℕ
low_call site caller callee kind = unless (nat_le (callee + chunks_added kind) caller) site

-- the site of an operation of function f, if it isn't covered
abbrev pub low_site : FlatCode → Certificate → List ℕ → ℕ → Op → Option ℕ
low_site code certificate heights f (Op.Call site d g args) =
    low_call site (height_of heights f) (height_of heights g) (kind_of certificate (Op.Call site d g args))
low_site code certificate heights f (Op.CallTable site d t i s) =
    low_call site (height_of heights f) (highest heights (members_of code t)) (kind_of certificate (Op.CallTable site d t i s))
low_site code certificate heights f _ = None

-- a thread's first function, if it is too high for this number of chunks
abbrev pub high_function : ℕ → List ℕ → ℕ → Option ℕ
high_function chunks heights g = unless (nat_lt (height_of heights g) chunks) g

-- the function with which an operation starts a thread, if it is too high
abbrev pub high_root : ℕ → List ℕ → ℕ → Op → Option ℕ
high_root chunks heights f (Op.Spawn site d g s) = high_function chunks heights g
high_root chunks heights f _ = None
