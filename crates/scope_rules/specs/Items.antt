-- Declarations and definitions outside functions: the rules that they break, and the program of a source.
use Rattle.std.specs.Prelude.{ℕ, Bool, true, false, not, ◌||◌, ◌&&◌, nat_eq, List, [], ◌∷◌, ◌++◌, length, Option, Some, None, codes}
use Rattle.std.specs.Str.{bytes_eq}
use Rattle.cap_word.specs.ModelledCalls.{all_calls, name_of}
use Rattle.cap_word.specs.declared.modelled_calls.ModelledCall.{ModelledCall}
use Rattle.c_tree.specs.declared.facts.GlobalFact.{GlobalFact}
use Rattle.c_tree.specs.RawTrees.{NameTree, RawItemTree, RawGlobal, RawGlobalArray, RawTableItem, RawPrototypeItem, RawFunctionItem, RawStmtTrees}
use Rattle.c_tree.specs.Trees.{FunctionTree, ProgramTree}
use Rattle.c_tree.specs.Temporaries.{capped}
use Rattle.scope_rules.specs.declared.faults.Rule.{Rule}
use Rattle.scope_rules.specs.declared.faults.Fault.{Fault}
use Rattle.scope_rules.specs.declared.meanings.Meaning.{Meaning}
use Rattle.scope_rules.specs.declared.meanings.Found.{Found}
use Rattle.scope_rules.specs.Names.{Binding, find, bound}
use Rattle.scope_rules.specs.Faults.{fault, broken}
use Rattle.scope_rules.specs.Meanings.{is_member, function_of}
use Rattle.scope_rules.specs.Expressions.{use_faults}
use Rattle.scope_rules.specs.Places.{Spot}
use Rattle.scope_rules.specs.Simples.{declared_faults, declare_faults, size_faults, with_variable}
use Rattle.scope_rules.specs.Statements.{inside, stmts_after, stmts_faults, stmts_of}

abbrev pub modelled : ModelledCall → Binding
modelled call = record { text = name_of call; meaning = Meaning.Modelled call }

-- these names, followed by those of modelled calls
abbrev pub with_calls : List Binding → List ModelledCall → List Binding
with_calls names [] = names
with_calls names (call ∷ calls) = with_calls (modelled call ∷ names) calls

-- the names of the table of modelled calls and of `spawn`, which are outside every scope of the source
abbrev pub modelled_names : List Binding
modelled_names = record { text = codes "spawn"; meaning = Meaning.Spawn } ∷ with_calls [] all_calls

-- the functions that a source defines, the latest first, numbered in the order of their definitions
abbrev pub with_definition : List Binding → RawItemTree → List Binding
with_definition ds (RawGlobal n start) = ds
with_definition ds (RawGlobalArray n size) = ds
with_definition ds (RawTableItem n size members) = ds
with_definition ds (RawPrototypeItem gives n params) = ds
with_definition ds (RawFunctionItem gives n params body) = record { text = n.text; meaning = Meaning.Function (capped (length ds)) gives (length params) true } ∷ ds

abbrev pub with_definitions : List Binding → List RawItemTree → List Binding
with_definitions ds [] = ds
with_definitions ds (i ∷ is) = with_definitions (with_definition ds i) is

abbrev pub definitions : List RawItemTree → List Binding
definitions is = with_definitions [] is

-- the resolved items so far: the names in scope and the number of the next site, globals, tables and functions
pub record Sofar : Type 0 where
  pub spot : Spot
  pub globals : List GlobalFact
  pub tables : List (List ℕ)
  pub functions : List FunctionTree

abbrev pub at_start : Sofar
at_start = record { spot = record { names = modelled_names; outer = length modelled_names; sizes = []; site = 0 }; globals = []; tables = []; functions = [] }

-- a global's or a table's name breaks Twice if it is already declared, and Kind if it is that of a modelled call
abbrev pub outer_in : ℕ → Meaning → List Fault
outer_in at (Meaning.Local x array) = fault at Rule.Twice ∷ []
outer_in at (Meaning.Global g array) = fault at Rule.Twice ∷ []
outer_in at (Meaning.Table t) = fault at Rule.Twice ∷ []
outer_in at (Meaning.Function f gives params defined) = fault at Rule.Twice ∷ []
outer_in at (Meaning.Modelled m) = fault at Rule.Kind ∷ []
outer_in at Meaning.Spawn = fault at Rule.Kind ∷ []

abbrev pub outer_faults : Option Found → ℕ → List Fault
outer_faults None at = []
outer_faults (Some f) at = outer_in at f.meaning

-- whether two results differ, int or void
abbrev pub differ : Bool → Bool → Bool
differ true b = not b
differ false b = b

-- a prototype or a definition of a name with this meaning breaks Twice if that isn't a function, or is already
-- defined and defined again; Arity if the results or the numbers of parameters differ; and Kind if it is a modelled
-- call
abbrev pub repeated_faults : Bool → Bool → ℕ → ℕ → Meaning → List Fault
repeated_faults defining gives params at (Meaning.Local x array) = fault at Rule.Twice ∷ []
repeated_faults defining gives params at (Meaning.Global g array) = fault at Rule.Twice ∷ []
repeated_faults defining gives params at (Meaning.Table t) = fault at Rule.Twice ∷ []
repeated_faults defining gives params at (Meaning.Function f g k defined) = broken (defining && defined) at Rule.Twice ++ broken (differ g gives || not (nat_eq k params)) at Rule.Arity
repeated_faults defining gives params at (Meaning.Modelled m) = fault at Rule.Kind ∷ []
repeated_faults defining gives params at Meaning.Spawn = fault at Rule.Kind ∷ []

abbrev pub function_faults : Bool → Bool → ℕ → ℕ → Option Found → List Fault
function_faults defining gives params at None = []
function_faults defining gives params at (Some f) = repeated_faults defining gives params at f.meaning

-- the definition of main has no parameters
abbrev pub main_faults : NameTree → ℕ → List Fault
main_faults n params = broken (bytes_eq n.text (codes "main") && not (nat_eq params 0)) n.at Rule.Kind

-- the function of a prototype isn't defined in the source
abbrev pub is_missing : Option Found → Bool
is_missing None = true
is_missing (Some f) = false

-- whether the name is a function that is already defined
abbrev pub is_defined_in : Meaning → Bool
is_defined_in (Meaning.Local x array) = false
is_defined_in (Meaning.Global g array) = false
is_defined_in (Meaning.Table t) = false
is_defined_in (Meaning.Function f g k defined) = defined
is_defined_in (Meaning.Modelled m) = false
is_defined_in Meaning.Spawn = false

abbrev pub is_defined : Option Found → Bool
is_defined None = false
is_defined (Some f) = is_defined_in f.meaning

-- the names in scope after a prototype or a definition
abbrev pub with_function : List Binding → List Binding → Bool → NameTree → ℕ → Bool → List Binding
with_function defs names gives n params defined = bound names n.text (Meaning.Function (function_of (find n.text defs)) gives params defined)

-- the names in a prototype's parentheses, which are a scope with `outer` names outside it
abbrev pub param_faults : List Binding → ℕ → Option NameTree → List Fault
param_faults names outer None = []
param_faults names outer (Some n) = declared_faults (find n.text names) outer n.at

abbrev pub param_bound : List Binding → Option NameTree → List Binding
param_bound names None = names
param_bound names (Some n) = bound names n.text (Meaning.Local 0 false)

abbrev pub prototype_faults : List Binding → ℕ → List (Option NameTree) → List Fault
prototype_faults names outer [] = []
prototype_faults names outer (p ∷ ps) = param_faults names outer p ++ prototype_faults (param_bound names p) outer ps

-- the parameters of a definition, which are in one scope with its outermost block
abbrev pub params_faults : Spot → List NameTree → List Fault
params_faults s [] = []
params_faults s (n ∷ ns) = declare_faults s n ++ params_faults (with_variable s n false 1) ns

abbrev pub params_after : Spot → List NameTree → Spot
params_after s [] = s
params_after s (n ∷ ns) = params_after (with_variable s n false 1) ns

-- a table's members: int functions with one parameter
abbrev pub members_faults : List Binding → List NameTree → List Fault
members_faults names [] = []
members_faults names (n ∷ ns) = use_faults is_member (find n.text names) n.at ++ members_faults names ns

abbrev pub members_of : List Binding → List NameTree → List ℕ
members_of names [] = []
members_of names (n ∷ ns) = function_of (find n.text names) ∷ members_of names ns

-- the start of a function's scope, without variables
abbrev pub unsized : Spot → Spot
unsized s = inside (record s { sizes = [] })

-- the start of a function's parameters, where the function's name is in scope; and the start of its body
abbrev pub params_spot : List Binding → Spot → Bool → NameTree → List NameTree → Spot
params_spot defs s gives n params = unsized (record s { names = with_function defs s.names gives n (length params) true })

abbrev pub body_spot : List Binding → Spot → Bool → NameTree → List NameTree → Spot
body_spot defs s gives n params = params_after (params_spot defs s gives n params) params

-- after a function: its name stays in scope, its variables don't
abbrev pub function_left : Spot → List Binding → Spot → Spot
function_left s names e = record e { names = names; outer = s.outer; sizes = [] }

abbrev pub function_tree_of : Spot → Bool → NameTree → List NameTree → RawStmtTrees → FunctionTree
function_tree_of b gives n params body = record { name = n.text; params = capped (length params); gives = gives; sizes = (stmts_after b body).sizes; body = stmts_of b body }

-- the rules that an item breaks, in a source with these definitions
abbrev pub item_faults : List Binding → Sofar → RawItemTree → List Fault
item_faults defs w (RawGlobal n start) = outer_faults (find n.text w.spot.names) n.at
item_faults defs w (RawGlobalArray n size) = outer_faults (find n.text w.spot.names) n.at ++ size_faults n size
item_faults defs w (RawTableItem n size members) =
    outer_faults (find n.text w.spot.names) n.at
    ++ (broken (nat_eq size 0 || not (nat_eq size (length members))) n.at Rule.Arity
    ++ members_faults w.spot.names members)
item_faults defs w (RawPrototypeItem gives n params) =
    broken (is_missing (find n.text defs)) n.at Rule.Unknown
    ++ (function_faults false gives (length params) n.at (find n.text w.spot.names)
    ++ (main_faults n (length params)
    ++ prototype_faults (with_function defs w.spot.names gives n (length params) (is_defined (find n.text w.spot.names)))
    (length (with_function defs w.spot.names gives n (length params) (is_defined (find n.text w.spot.names)))) params))
item_faults defs w (RawFunctionItem gives n params body) =
    function_faults true gives (length params) n.at (find n.text w.spot.names)
    ++ (main_faults n (length params)
    ++ (params_faults (params_spot defs w.spot gives n params) params
    ++ stmts_faults gives false (body_spot defs w.spot gives n params) body))

-- with one more global or table
abbrev pub with_global : Sofar → NameTree → Bool → GlobalFact → Sofar
with_global w n array g = record w { spot = record w.spot { names = bound w.spot.names n.text (Meaning.Global (capped (length w.globals)) array) }; globals = w.globals ++ g ∷ [] }

abbrev pub with_table : Sofar → NameTree → List ℕ → Sofar
with_table w n row = record w { spot = record w.spot { names = bound w.spot.names n.text (Meaning.Table (capped (length w.tables))) }; tables = w.tables ++ row ∷ [] }

-- the resolved items after one more; a table's name isn't in scope among its members
abbrev pub item_after : List Binding → Sofar → RawItemTree → Sofar
item_after defs w (RawGlobal n start) = with_global w n false (record { words = 1; start = start })
item_after defs w (RawGlobalArray n size) = with_global w n true (record { words = size; start = 0 })
item_after defs w (RawTableItem n size members) = with_table w n (members_of w.spot.names members)
item_after defs w (RawPrototypeItem gives n params) =
    record w { spot = record w.spot { names = with_function defs w.spot.names gives n (length params) (is_defined (find n.text w.spot.names)) } }
item_after defs w (RawFunctionItem gives n params body) =
    record w {
      spot = function_left w.spot (with_function defs w.spot.names gives n (length params) true) (stmts_after (body_spot defs w.spot gives n params) body);
      functions = w.functions ++ function_tree_of (body_spot defs w.spot gives n params) gives n params body ∷ [];
    }

abbrev pub items_faults : List Binding → Sofar → List RawItemTree → List Fault
items_faults defs w [] = []
items_faults defs w (i ∷ is) = item_faults defs w i ++ items_faults defs (item_after defs w i) is

abbrev pub items_after : List Binding → Sofar → List RawItemTree → Sofar
items_after defs w [] = w
items_after defs w (i ∷ is) = items_after defs (item_after defs w i) is

-- all rules of scope that a source breaks
abbrev pub faults_of : List RawItemTree → List Fault
faults_of is = items_faults (definitions is) at_start is

-- the program of a source: its tree with numbers in place of names
abbrev pub parts_of : List RawItemTree → Sofar
parts_of is = items_after (definitions is) at_start is

abbrev pub program_of : List RawItemTree → ProgramTree
program_of is = record { functions = (parts_of is).functions; globals = (parts_of is).globals; tables = (parts_of is).tables; main = function_of (find (codes "main") (definitions is)) }

-- whether a source defines main
abbrev pub has_main : List RawItemTree → Bool
has_main is = not (is_missing (find (codes "main") (definitions is)))
