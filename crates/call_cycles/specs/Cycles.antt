-- Calls between functions, and cycles of calls.
use Rattle.std.specs.Prelude.{ℕ, ◌≡◌, ◌≤◌, true, Option, Some, None, List, [], ◌∷◌}
use Rattle.flat_code.specs.declared.operations.Op.{Op}
use Rattle.flat_code.specs.Codes.{FlatCode, operation_at, members_of}
use Rattle.call_graph.specs.Lists.{has}

-- the functions that an operation calls: the one that it names, or each member of the table. The start of a thread
-- isn't a call
abbrev pub functions_called : FlatCode → Op → List ℕ
functions_called code (Op.Call site d f args) = f ∷ []
functions_called code (Op.CallTable site d t i s) = members_of code t
functions_called code _ = []

-- an operation of function f calls function g, or a table of which g is a member
pub record Calls (code : FlatCode) (f g : ℕ) : Type 0 where
  pub k : ℕ
  pub op : Op
  pub there : operation_at code f k ≡ Some op
  pub called : has g (functions_called code op) ≡ true

-- calls lead from function f through these functions, the last of which is g
abbrev pub IsWay : FlatCode → ℕ → List ℕ → ℕ → Type 0
IsWay code f [] g = f ≡ g
IsWay code f (h ∷ hs) g = Calls code f h × IsWay code h hs g

-- one or more calls lead from function f to function g
pub record Reaches (code : FlatCode) (f g : ℕ) : Type 0 where
  pub first : ℕ
  pub call : Calls code f first
  pub rest : List ℕ
  pub way : IsWay code first rest g

-- function f is on a cycle of calls
abbrev pub IsOnCycle : FlatCode → ℕ → Type 0
IsOnCycle code f = Reaches code f f

-- the least number with a property
pub record IsLeast (P : ℕ → Type 0) (n : ℕ) : Type 0 where
  pub holds : P n
  pub least : (m : ℕ) → P m → n ≤ m

-- the least number with a property, or none if no number has it
abbrev pub IsLeastOf : (ℕ → Type 0) → Option ℕ → Type 0
IsLeastOf P None = (n : ℕ) → P n → ⊥
IsLeastOf P (Some n) = IsLeast P n
