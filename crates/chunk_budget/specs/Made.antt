-- What determines the least heights: the requirement of each operation on its function, and the greatest height of the
-- first functions of threads.
use Rattle.std.specs.Prelude.{ℕ, zero, suc, ◌+◌, max, List}
use Rattle.flat_code.specs.declared.operations.Op.{Op}
use Rattle.flat_code.specs.Codes.{FlatCode, members_of}
use Rattle.stack_certificate.specs.declared.certificates.Certificate.{Certificate}
use Rattle.stack_certificate.specs.Templates.{kind_of}
use Rattle.chunk_budget.specs.Budgets.{height_of, chunks_added}
use Rattle.chunk_budget.specs.Tests.{highest}

-- the height that an operation requires of its function
abbrev pub height_asked : FlatCode → Certificate → List ℕ → Op → ℕ
height_asked code certificate heights (Op.Call site d g args) = height_of heights g + chunks_added (kind_of certificate (Op.Call site d g args))
height_asked code certificate heights (Op.CallTable site d t i s) = highest heights (members_of code t) + chunks_added (kind_of certificate (Op.CallTable site d t i s))
height_asked code certificate heights _ = 0

-- the height of the function with which an operation starts a thread, or 0
abbrev pub height_spawned : List ℕ → Op → ℕ
height_spawned heights (Op.Spawn site d g s) = height_of heights g
height_spawned heights _ = 0

-- the greatest value of the first n numbers, or 0
abbrev pub greatest_below : (ℕ → ℕ) → ℕ → ℕ
greatest_below value zero = 0
greatest_below value (suc n) = max (greatest_below value n) (value n)
