-- Signatures of functions, and members of tables: the same in source and flat code.
use Rattle.std.specs.Prelude.{ℕ, ◌<◌, ◌≤◌, ◌≡◌, Bool, true, false, List, length, slice_index_or}
use Rattle.std.specs.List.{AllByRecursion}

-- the number of a function's parameters, and whether its calls give a result
pub record Signature : Type 0 where
  pub params : ℕ
  pub gives : Bool

-- the signature of function f, which exists
abbrev pub signature_at : List Signature → ℕ → Signature
signature_at ss f = slice_index_or ss f (record { params = 0; gives = false })

-- a member of a table: a function with one parameter that gives a result
abbrev pub IsMember : List Signature → ℕ → Type 0
IsMember ss f = (f < length ss) × ((signature_at ss f).params ≡ 1) × ((signature_at ss f).gives ≡ true)

-- a table has a member, and each of its members is one
abbrev pub IsTable : List Signature → List ℕ → Type 0
IsTable ss row = (1 ≤ length row) × AllByRecursion (IsMember ss) row
