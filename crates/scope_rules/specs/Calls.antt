-- Calls, and right sides, which may be calls: the rules that they break, and their trees with numbers in place of
-- names.
use Rattle.std.specs.Prelude.{ℕ, ◌+◌, Bool, true, not, ◌||◌, ◌&&◌, List, [], ◌∷◌, ◌++◌, length, Option, Some, None}
use Rattle.c_tree.specs.RawTrees.{NameTree, RawExprTree, RawName, RawCall, RawTableCall}
use Rattle.c_tree.specs.Trees.{ExprTree, Number, CallTree, CallFunction, CallTable, CallSpawn, CallModelled, RightTree, Computed, Called}
use Rattle.c_tree.specs.Temporaries.{capped}
use Rattle.scope_rules.specs.declared.faults.Rule.{Rule}
use Rattle.scope_rules.specs.declared.faults.Fault.{Fault}
use Rattle.scope_rules.specs.declared.meanings.Callee.{Callee}
use Rattle.scope_rules.specs.declared.meanings.Found.{Found}
use Rattle.scope_rules.specs.Names.{Binding, find}
use Rattle.scope_rules.specs.Faults.{fault, broken}
use Rattle.scope_rules.specs.Meanings.{is_callable, is_table, is_spawnable, is_void, takes, is_wrong_count, table_of, function_of, callee_of}
use Rattle.scope_rules.specs.Expressions.{use_faults, expr_faults, exprs_faults, listed, expr_of, exprs_of}

-- the name of a call without an index, with this many arguments, breaks Unknown if it isn't in scope; Arity if it
-- takes another number of arguments; and Kind if it is neither a function nor a modelled call, or if its result is
-- used and it gives none
abbrev pub call_name_faults : Bool → Option Found → ℕ → ℕ → List Fault
call_name_faults used None at count = fault at Rule.Unknown ∷ []
call_name_faults used (Some f) at count = broken (is_wrong_count (takes f.meaning) count) at Rule.Arity ++ broken (not (is_callable f.meaning) || (used && is_void f.meaning)) at Rule.Kind

-- the name of a call with an index and one argument breaks Kind if it isn't a table
abbrev pub table_name_faults : Option Found → ℕ → List Fault
table_name_faults None at = fault at Rule.Unknown ∷ []
table_name_faults (Some f) at = broken (is_wrong_count (takes f.meaning) 1) at Rule.Arity ++ broken (not (is_table f.meaning)) at Rule.Kind

-- the first argument of spawn breaks Kind at `spawn` if it isn't a name alone, and at the name if that isn't a
-- function with one parameter
abbrev pub spawned_faults : List Binding → ℕ → RawExprTree → List Fault
spawned_faults names at (RawName g) = use_faults is_spawnable (find g.text names) g.at
spawned_faults names at e = fault at Rule.Kind ∷ expr_faults names e

abbrev pub spawn_faults : List Binding → ℕ → List RawExprTree → List Fault
spawn_faults names at [] = []
spawn_faults names at (e ∷ es) = spawned_faults names at e ++ exprs_faults names es

-- the arguments: values, except for the first one of spawn
abbrev pub arguments_faults : Callee → List Binding → ℕ → List RawExprTree → List Fault
arguments_faults (Callee.Function f) names at es = exprs_faults names es
arguments_faults (Callee.Modelled m) names at es = exprs_faults names es
arguments_faults Callee.Spawn names at es = spawn_faults names at es

abbrev pub call_faults : Bool → List Binding → NameTree → List RawExprTree → List Fault
call_faults used names n es = call_name_faults used (find n.text names) n.at (length es) ++ arguments_faults (callee_of (find n.text names)) names n.at es

abbrev pub table_call_faults : List Binding → NameTree → RawExprTree → RawExprTree → List Fault
table_call_faults names n i e = table_name_faults (find n.text names) n.at ++ (expr_faults names i ++ expr_faults names e)

-- a right side or a returned value, in which a call's result is used
abbrev pub right_faults : List Binding → RawExprTree → List Fault
right_faults names (RawCall n es) = call_faults true names n (listed es)
right_faults names (RawTableCall n i e) = table_call_faults names n i e
right_faults names e = expr_faults names e

-- the function that spawn starts, and its argument
abbrev pub spawned_function : List Binding → RawExprTree → ℕ
spawned_function names (RawName g) = function_of (find g.text names)
spawned_function names e = 0

abbrev pub first_value : List ExprTree → ExprTree
first_value [] = Number 0
first_value (e ∷ es) = e

abbrev pub spawn_of : List Binding → ℕ → List RawExprTree → CallTree
spawn_of names k [] = CallSpawn k 0 (Number 0)
spawn_of names k (e ∷ es) = CallSpawn k (spawned_function names e) (first_value (exprs_of names es))

-- a call at site k
abbrev pub call_by : Callee → List Binding → ℕ → List RawExprTree → CallTree
call_by (Callee.Function f) names k es = CallFunction k f (exprs_of names es)
call_by (Callee.Modelled m) names k es = CallModelled k m (exprs_of names es)
call_by Callee.Spawn names k es = spawn_of names k es

abbrev pub call_of : List Binding → ℕ → NameTree → List RawExprTree → CallTree
call_of names k n es = call_by (callee_of (find n.text names)) names k es

abbrev pub table_call_of : List Binding → ℕ → NameTree → RawExprTree → RawExprTree → CallTree
table_call_of names k n i e = CallTable k (table_of (find n.text names)) (expr_of names i) (expr_of names e)

-- a right side whose call, if it is one, is at site k
abbrev pub right_of : List Binding → ℕ → RawExprTree → RightTree
right_of names k (RawCall n es) = Called (call_of names k n (listed es))
right_of names k (RawTableCall n i e) = Called (table_call_of names k n i e)
right_of names k e = Computed (expr_of names e)

-- the number of the next site; numbers above every limit are equal
abbrev pub next : ℕ → ℕ
next k = capped (1 + k)

-- the next site after a right side
abbrev pub right_after : ℕ → RawExprTree → ℕ
right_after k (RawCall n es) = next k
right_after k (RawTableCall n i e) = next k
right_after k e = k
