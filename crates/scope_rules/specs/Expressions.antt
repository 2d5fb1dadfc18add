-- Expressions: the rules that their names break, and their trees with numbers in place of names.
use Rattle.std.specs.Prelude.{ℕ, ◌^◌, ◌%◌, Bool, not, List, [], ◌∷◌, ◌++◌, map, Option, Some, None}
use Rattle.c_tree.specs.RawTrees.{NameTree, RawExprTree, RawExprTrees, RawNumber, RawName, RawElement, RawUnary, RawParenthesized, RawBinary, RawLogicalAnd, RawLogicalOr, RawConditional, RawCall, RawTableCall, NoExprs, And}
use Rattle.c_tree.specs.Trees.{ExprTree, Number, Local, Global, LocalElement, GlobalElement, Unary, Parenthesized, Binary, LogicalAnd, LogicalOr, Conditional}
use Rattle.scope_rules.specs.declared.faults.Rule.{Rule}
use Rattle.scope_rules.specs.declared.faults.Fault.{Fault}
use Rattle.scope_rules.specs.declared.meanings.Meaning.{Meaning}
use Rattle.scope_rules.specs.declared.meanings.Variable.{Variable}
use Rattle.scope_rules.specs.declared.meanings.Found.{Found}
use Rattle.scope_rules.specs.Names.{Binding, find}
use Rattle.scope_rules.specs.Faults.{fault, broken}
use Rattle.scope_rules.specs.Meanings.{is_scalar, is_array, variable_of}

-- a use of a name breaks Unknown if the name isn't in scope there, and Kind if its meaning doesn't
-- permit this use
abbrev pub use_faults : (Meaning → Bool) → Option Found → ℕ → List Fault
use_faults may None at = fault at Rule.Unknown ∷ []
use_faults may (Some f) at = broken (not (may f.meaning)) at Rule.Kind

-- a name as a value or assigned, without an index
abbrev pub scalar_faults : List Binding → NameTree → List Fault
scalar_faults names n = use_faults is_scalar (find n.text names) n.at

-- with an index
abbrev pub array_faults : List Binding → NameTree → List Fault
array_faults names n = use_faults is_array (find n.text names) n.at

-- an expression; it contains no calls, so they have no faults here
abbrev pub expr_faults : List Binding → RawExprTree → List Fault
expr_faults names (RawNumber v) = []
expr_faults names (RawName n) = scalar_faults names n
expr_faults names (RawElement n i) = array_faults names n ++ expr_faults names i
expr_faults names (RawUnary op e) = expr_faults names e
expr_faults names (RawParenthesized e) = expr_faults names e
expr_faults names (RawBinary op l r) = expr_faults names l ++ expr_faults names r
expr_faults names (RawLogicalAnd l r) = expr_faults names l ++ expr_faults names r
expr_faults names (RawLogicalOr l r) = expr_faults names l ++ expr_faults names r
expr_faults names (RawConditional c a b) = expr_faults names c ++ expr_faults names a ++ expr_faults names b
expr_faults names (RawCall n es) = []
expr_faults names (RawTableCall n i e) = []

abbrev pub exprs_faults : List Binding → List RawExprTree → List Fault
exprs_faults names [] = []
exprs_faults names (e ∷ es) = expr_faults names e ++ exprs_faults names es

-- a variable or a global, without and with an index
abbrev pub scalar_value : Variable → ExprTree
scalar_value (Variable.Local x) = Local x
scalar_value (Variable.Global g) = Global g

abbrev pub element_value : Variable → ExprTree → ExprTree
element_value (Variable.Local a) i = LocalElement a i
element_value (Variable.Global a) i = GlobalElement a i

-- an expression with numbers in place of names; a number is taken modulo 2 ^ 32
abbrev pub expr_of : List Binding → RawExprTree → ExprTree
expr_of names (RawNumber v) = Number (v % 2 ^ 32)
expr_of names (RawName n) = scalar_value (variable_of (find n.text names))
expr_of names (RawElement n i) = element_value (variable_of (find n.text names)) (expr_of names i)
expr_of names (RawUnary op e) = Unary op (expr_of names e)
expr_of names (RawParenthesized e) = Parenthesized (expr_of names e)
expr_of names (RawBinary op l r) = Binary op (expr_of names l) (expr_of names r)
expr_of names (RawLogicalAnd l r) = LogicalAnd (expr_of names l) (expr_of names r)
expr_of names (RawLogicalOr l r) = LogicalOr (expr_of names l) (expr_of names r)
expr_of names (RawConditional c a b) = Conditional (expr_of names c) (expr_of names a) (expr_of names b)
expr_of names (RawCall n es) = Number 0
expr_of names (RawTableCall n i e) = Number 0

-- arguments, as a list
abbrev pub listed : RawExprTrees → List RawExprTree
listed NoExprs = []
listed (And e es) = e ∷ listed es

abbrev pub exprs_of : List Binding → List RawExprTree → List ExprTree
exprs_of names es = map (expr_of names) es
