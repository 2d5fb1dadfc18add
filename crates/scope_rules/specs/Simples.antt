-- Declarations, assignments and calls: the rules that they break, their trees with numbers in place of names, and the
-- scope after them.
use Rattle.std.specs.Prelude.{ℕ, Bool, true, false, not, ◌||◌, nat_lt, List, [], ◌∷◌, ◌++◌, length, Option, Some, None}
use Rattle.c_tree.specs.RawTrees.{NameTree, RawExprTree, RawSimpleTree, RawDeclareScalar, RawDeclareArray, RawDeclareWith, RawSet, RawSetElement, RawCalling, RawTableCalling}
use Rattle.c_tree.specs.Trees.{ExprTree, RightTree, SimpleTree, DeclareScalar, DeclareArray, DeclareWith, SetLocal, SetGlobal, SetLocalElement, SetGlobalElement, Calling}
use Rattle.c_tree.specs.Temporaries.{capped}
use Rattle.scope_rules.specs.declared.faults.Rule.{Rule}
use Rattle.scope_rules.specs.declared.faults.Fault.{Fault}
use Rattle.scope_rules.specs.declared.meanings.Meaning.{Meaning}
use Rattle.scope_rules.specs.declared.meanings.Variable.{Variable}
use Rattle.scope_rules.specs.declared.meanings.Found.{Found}
use Rattle.scope_rules.specs.Names.{find, bound}
use Rattle.scope_rules.specs.Faults.{broken}
use Rattle.scope_rules.specs.Meanings.{is_modelled, variable_of}
use Rattle.scope_rules.specs.Expressions.{scalar_faults, array_faults, expr_faults, listed, expr_of}
use Rattle.scope_rules.specs.Calls.{call_faults, table_call_faults, right_faults, call_of, table_call_of, right_of, right_after}
use Rattle.scope_rules.specs.Places.{Spot, called}

-- a declared name breaks Twice if it is already declared in this scope, and Kind if it is that of a modelled call
abbrev pub declared_faults : Option Found → ℕ → ℕ → List Fault
declared_faults None outer at = []
declared_faults (Some f) outer at = broken (not (nat_lt f.position outer)) at Rule.Twice ++ broken (is_modelled f.meaning) at Rule.Kind

abbrev pub declare_faults : Spot → NameTree → List Fault
declare_faults s n = declared_faults (find n.text s.names) s.outer n.at

-- an array breaks Kind if it has no word or more than 65,536
abbrev pub size_faults : NameTree → ℕ → List Fault
size_faults n size = broken (nat_lt size 1 || nat_lt 65536 size) n.at Rule.Kind

-- the number of the next variable
abbrev pub next_variable : Spot → ℕ
next_variable s = capped (length s.sizes)

-- after the declaration of a variable of this many words
abbrev pub with_variable : Spot → NameTree → Bool → ℕ → Spot
with_variable s n array words = record s { names = bound s.names n.text (Meaning.Local (next_variable s) array); sizes = s.sizes ++ words ∷ [] }

-- after a right side
abbrev pub valued : Spot → RawExprTree → Spot
valued s v = record s { site = right_after s.site v }

abbrev pub simple_faults : Spot → RawSimpleTree → List Fault
simple_faults s (RawDeclareScalar n) = declare_faults s n
simple_faults s (RawDeclareArray n size) = declare_faults s n ++ size_faults n size
simple_faults s (RawDeclareWith n v) = declare_faults s n ++ right_faults s.names v
simple_faults s (RawSet n v) = scalar_faults s.names n ++ right_faults s.names v
simple_faults s (RawSetElement n i v) = array_faults s.names n ++ (expr_faults s.names i ++ right_faults s.names v)
simple_faults s (RawCalling n es) = call_faults false s.names n (listed es)
simple_faults s (RawTableCalling n i e) = table_call_faults s.names n i e

-- an assignment to a variable or a global, without and with an index
abbrev pub set_scalar : Variable → RightTree → SimpleTree
set_scalar (Variable.Local x) v = SetLocal x v
set_scalar (Variable.Global g) v = SetGlobal g v

abbrev pub set_element : Variable → ExprTree → RightTree → SimpleTree
set_element (Variable.Local a) i v = SetLocalElement a i v
set_element (Variable.Global a) i v = SetGlobalElement a i v

abbrev pub simple_of : Spot → RawSimpleTree → SimpleTree
simple_of s (RawDeclareScalar n) = DeclareScalar (next_variable s)
simple_of s (RawDeclareArray n size) = DeclareArray (next_variable s) size
simple_of s (RawDeclareWith n v) = DeclareWith (next_variable s) (right_of s.names s.site v)
simple_of s (RawSet n v) = set_scalar (variable_of (find n.text s.names)) (right_of s.names s.site v)
simple_of s (RawSetElement n i v) = set_element (variable_of (find n.text s.names)) (expr_of s.names i) (right_of s.names s.site v)
simple_of s (RawCalling n es) = Calling (call_of s.names s.site n (listed es))
simple_of s (RawTableCalling n i e) = Calling (table_call_of s.names s.site n i e)

-- a name is in scope after its initialiser, but not in it
abbrev pub simple_after : Spot → RawSimpleTree → Spot
simple_after s (RawDeclareScalar n) = with_variable s n false 1
simple_after s (RawDeclareArray n size) = with_variable s n true size
simple_after s (RawDeclareWith n v) = with_variable (valued s v) n false 1
simple_after s (RawSet n v) = valued s v
simple_after s (RawSetElement n i v) = valued s v
simple_after s (RawCalling n es) = called s
simple_after s (RawTableCalling n i e) = called s

-- the first part of a for, one declaration or assignment after another
abbrev pub simples_faults : Spot → List RawSimpleTree → List Fault
simples_faults s [] = []
simples_faults s (p ∷ ps) = simple_faults s p ++ simples_faults (simple_after s p) ps

abbrev pub simples_of : Spot → List RawSimpleTree → List SimpleTree
simples_of s [] = []
simples_of s (p ∷ ps) = simple_of s p ∷ simples_of (simple_after s p) ps

abbrev pub simples_after : Spot → List RawSimpleTree → Spot
simples_after s [] = s
simples_after s (p ∷ ps) = simples_after (simple_after s p) ps
