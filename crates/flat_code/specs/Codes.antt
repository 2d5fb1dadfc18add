-- Programs of flat code as plain data.
use Rattle.std.specs.Prelude.{ℕ, false, List, [], Option, Some, None, slice_get, slice_index_or}
use Rattle.flat_code.specs.declared.operations.Op.{Op}
use Rattle.flat_code.specs.declared.functions.FlatFunction.{FlatFunction}
use Rattle.flat_code.specs.declared.programs.FlatGlobal.{FlatGlobal}

-- a program: functions, globals, the members of each table, and the number of main
pub record FlatCode : Type 0 where
  pub functions : List FlatFunction
  pub globals : List FlatGlobal
  pub tables : List (List ℕ)
  pub main : ℕ

abbrev pub code_of : List FlatFunction → List FlatGlobal → List (List ℕ) → ℕ → FlatCode
code_of fs gs ts main = record { functions = fs; globals = gs; tables = ts; main = main }

-- function f, which exists
abbrev pub function_at : FlatCode → ℕ → FlatFunction
function_at code f = slice_index_or code.functions f (record { params = 0; gives = false; sizes = []; ops = [] })

-- the members of table t, which exists
abbrev pub members_of : FlatCode → ℕ → List ℕ
members_of code t = slice_index_or code.tables t []

-- operation i of function f, if it exists
abbrev pub operation_at : FlatCode → ℕ → ℕ → Option Op
operation_at code f i = slice_get (function_at code f).ops i

-- the number of an operation's site, if it is a call
abbrev pub site_of : Op → Option ℕ
site_of (Op.Call site d f args) = Some site
site_of (Op.CallTable site d t i s) = Some site
site_of (Op.Model site d n args) = Some site
site_of (Op.Spawn site d f s) = Some site
site_of _ = None

-- the variable that gets the result of a call, if the result is used
abbrev pub result_place : Op → Option ℕ
result_place (Op.Call site d f args) = d
result_place (Op.CallTable site d t i s) = d
result_place (Op.Model site d n args) = d
result_place (Op.Spawn site d f s) = d
result_place _ = None
