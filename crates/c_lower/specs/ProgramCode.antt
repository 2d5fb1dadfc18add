-- The flat code of functions and of a program.
use Rattle.std.specs.Prelude.{ℕ, Bool, true, false, List, [], ◌∷◌, ◌++◌, length, map, Some, None}
use Rattle.c_tree.specs.declared.facts.GlobalFact.{GlobalFact}
use Rattle.c_tree.specs.Sizes.{scalars}
use Rattle.c_tree.specs.Temporaries.{function_temporaries}
use Rattle.c_tree.specs.Trees.{FunctionTree, ProgramTree}
use Rattle.flat_code.specs.declared.operations.Op.{Op}
use Rattle.flat_code.specs.declared.functions.FlatFunction.{FlatFunction}
use Rattle.flat_code.specs.declared.programs.FlatGlobal.{FlatGlobal}
use Rattle.flat_code.specs.Codes.{FlatCode}
use Rattle.c_lower.specs.StmtCode.{stmts_code}

-- after the body an `int` function always returns 0
abbrev pub closing_code : Bool → ℕ → List Op
closing_code true t = Op.Const t 0 ∷ Op.Return (Some t) ∷ []
closing_code false t = Op.Return None ∷ []

-- a function's first temporary, which comes after its parameters and its declared names
abbrev pub first_temporary : FunctionTree → ℕ
first_temporary f = length f.sizes

abbrev pub function_ops : FunctionTree → List Op
function_ops f = stmts_code f.body 0 (first_temporary f) 0 0 ++ closing_code f.gives (first_temporary f)

-- its variables: parameters, declared names in the order of the text, and temporaries
abbrev pub function_sizes : FunctionTree → List ℕ
function_sizes f = f.sizes ++ scalars (function_temporaries f)

abbrev pub lowered_function : FunctionTree → FlatFunction
lowered_function f = record { params = f.params; gives = f.gives; sizes = function_sizes f; ops = function_ops f }

abbrev pub lowered_global : GlobalFact → FlatGlobal
lowered_global g = record { words = g.words; start = g.start }

abbrev pub lowered : ProgramTree → FlatCode
lowered p = record { functions = map lowered_function p.functions; globals = map lowered_global p.globals; tables = p.tables; main = p.main }
