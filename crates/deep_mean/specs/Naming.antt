-- The program of a source's tree, with calls where the text has them: each name stands for the declaration that is in
-- scope (`scope_rules`), and the number of each call is the rank of its name's place among the calls of the text. If
-- the places of a tree increase, as the grammar's do, the calls are numbered in the order of the text: a call's name
-- before its index and its arguments.
use Rattle.std.specs.Prelude.{ℕ, ◌+◌, ◌%◌, ◌^◌, Bool, true, false, List, [], ◌∷◌, ◌++◌, length, codes, Option, Some, None, option_map}
use Rattle.c_tree.specs.declared.facts.GlobalFact.{GlobalFact}
use Rattle.c_tree.specs.RawTrees.{RawExprTree, RawExprTrees, RawNumber, RawName, RawElement, RawUnary, RawParenthesized, RawBinary, RawLogicalAnd, RawLogicalOr, RawConditional, RawCall, RawTableCall, RawSimpleTree, RawDeclareScalar, RawDeclareArray, RawDeclareWith, RawSet, RawSetElement, RawCalling, RawTableCalling, RawStmtTree, RawStmtTrees, RawDo, RawEmpty, RawBlock, RawIf, RawIfElse, RawWhile, RawFor, RawBreak, RawContinue, RawReturn, NoRawStmts, RawThen, RawItemTree, RawGlobal, RawGlobalArray, RawTableItem, RawPrototypeItem, RawFunctionItem}
use Rattle.c_tree.specs.RawTrees as raw
use Rattle.scope_rules.specs.declared.meanings.Variable.{Variable}
use Rattle.scope_rules.specs.declared.meanings.Callee as called
use Rattle.scope_rules.specs.Names.{Binding, find}
use Rattle.scope_rules.specs.Meanings.{variable_of, table_of, function_of, callee_of}
use Rattle.scope_rules.specs.Calls.{spawned_function}
use Rattle.scope_rules.specs.Places.{Spot}
use Rattle.scope_rules.specs.Simples.{next_variable, with_variable}
use Rattle.scope_rules.specs.Statements.{inside, left}
use Rattle.scope_rules.specs.Items.{Sofar, at_start, definitions, with_function, is_defined, members_of, body_spot, function_left, with_global, with_table}
use Rattle.deep_mean.specs.DeepTrees.{Callee, Function, Modelled, Spawned, DeepExpr, Number, Local, Global, LocalElement, GlobalElement, Unary, Parenthesized, Binary, LogicalAnd, LogicalOr, Conditional, Call, TableCall, DeepExprs, NoExprs, And, DeepSimple, DeclareScalar, DeclareArray, DeclareWith, SetLocal, SetGlobal, SetLocalElement, SetGlobalElement, Calling, DeepStmt, DeepStmts, Do, Empty, Block, If, IfElse, While, For, Break, Continue, Return, NoStmts, Then, DeepFunction, DeepProgram}

-- ---- expressions

-- the number of calls in an expression
abbrev mutual
  pub calls_in : RawExprTree → ℕ
  calls_in (RawNumber v) = 0
  calls_in (RawName n) = 0
  calls_in (RawElement n i) = calls_in i
  calls_in (RawUnary op e) = calls_in e
  calls_in (RawParenthesized e) = calls_in e
  calls_in (RawBinary op l r) = calls_in l + calls_in r
  calls_in (RawLogicalAnd l r) = calls_in l + calls_in r
  calls_in (RawLogicalOr l r) = calls_in l + calls_in r
  calls_in (RawConditional c a b) = calls_in c + calls_in a + calls_in b
  calls_in (RawCall n es) = 1 + all_calls_in es
  calls_in (RawTableCall n i e) = 1 + calls_in i + calls_in e

  pub all_calls_in : RawExprTrees → ℕ
  all_calls_in raw.NoExprs = 0
  all_calls_in (raw.And e es) = calls_in e + all_calls_in es

abbrev pub scalar_value : Variable → DeepExpr
scalar_value (Variable.Local x) = Local x
scalar_value (Variable.Global g) = Global g

abbrev pub element_value : Variable → DeepExpr → DeepExpr
element_value (Variable.Local a) i = LocalElement a i
element_value (Variable.Global a) i = GlobalElement a i

-- the callee of a call of a name; the first argument of `spawn` names the function
abbrev pub first_function : List Binding → RawExprTrees → ℕ
first_function names raw.NoExprs = 0
first_function names (raw.And e es) = spawned_function names e

abbrev pub callee_by : called.Callee → List Binding → RawExprTrees → Callee
callee_by (called.Callee.Function f) names es = Function f
callee_by (called.Callee.Modelled m) names es = Modelled m
callee_by called.Callee.Spawn names es = Spawned (first_function names es)

-- the arguments that are evaluated: all but the first one of `spawn`
abbrev pub is_spawn_by : called.Callee → Bool
is_spawn_by (called.Callee.Function f) = false
is_spawn_by (called.Callee.Modelled m) = false
is_spawn_by called.Callee.Spawn = true

-- an expression, with its calls numbered from k on
abbrev mutual
  pub expr_of : List Binding → ℕ → RawExprTree → DeepExpr
  expr_of names k (RawNumber v) = Number (v % 2 ^ 32)
  expr_of names k (RawName n) = scalar_value (variable_of (find n.text names))
  expr_of names k (RawElement n i) = element_value (variable_of (find n.text names)) (expr_of names k i)
  expr_of names k (RawUnary op e) = Unary op (expr_of names k e)
  expr_of names k (RawParenthesized e) = Parenthesized (expr_of names k e)
  expr_of names k (RawBinary op l r) = Binary op (expr_of names k l) (expr_of names (k + calls_in l) r)
  expr_of names k (RawLogicalAnd l r) = LogicalAnd (expr_of names k l) (expr_of names (k + calls_in l) r)
  expr_of names k (RawLogicalOr l r) = LogicalOr (expr_of names k l) (expr_of names (k + calls_in l) r)
  expr_of names k (RawConditional c a b) = Conditional (expr_of names k c) (expr_of names (k + calls_in c) a) (expr_of names (k + calls_in c + calls_in a) b)
  expr_of names k (RawCall n es) = Call k (callee_by (callee_of (find n.text names)) names es) (arguments_of names (is_spawn_by (callee_of (find n.text names))) (k + 1) es)
  expr_of names k (RawTableCall n i e) = TableCall k (table_of (find n.text names)) (expr_of names (k + 1) i) (expr_of names (k + 1 + calls_in i) e)

  pub arguments_of : List Binding → Bool → ℕ → RawExprTrees → DeepExprs
  arguments_of names but_first k raw.NoExprs = NoExprs
  arguments_of names true k (raw.And e es) = arguments_of names false (k + calls_in e) es
  arguments_of names false k (raw.And e es) = And (expr_of names k e) (arguments_of names false (k + calls_in e) es)

-- ---- statements

abbrev pub set_scalar : Variable → DeepExpr → DeepSimple
set_scalar (Variable.Local x) v = SetLocal x v
set_scalar (Variable.Global g) v = SetGlobal g v

abbrev pub set_element : Variable → DeepExpr → DeepExpr → DeepSimple
set_element (Variable.Local a) i v = SetLocalElement a i v
set_element (Variable.Global a) i v = SetGlobalElement a i v

abbrev pub simple_of : Spot → RawSimpleTree → DeepSimple
simple_of s (RawDeclareScalar n) = DeclareScalar (next_variable s)
simple_of s (RawDeclareArray n size) = DeclareArray (next_variable s) size
simple_of s (RawDeclareWith n v) = DeclareWith (next_variable s) (expr_of s.names s.site v)
simple_of s (RawSet n v) = set_scalar (variable_of (find n.text s.names)) (expr_of s.names s.site v)
simple_of s (RawSetElement n i v) = set_element (variable_of (find n.text s.names)) (expr_of s.names s.site i) (expr_of s.names (s.site + calls_in i) v)
simple_of s (RawCalling n es) = Calling (expr_of s.names s.site (RawCall n es))
simple_of s (RawTableCalling n i e) = Calling (expr_of s.names s.site (RawTableCall n i e))

-- the spot, with the calls of a statement's expressions counted
abbrev pub counted : Spot → ℕ → Spot
counted s n = record s { site = s.site + n }

-- a name is in scope after its initialiser, but not in it
abbrev pub simple_after : Spot → RawSimpleTree → Spot
simple_after s (RawDeclareScalar n) = with_variable s n false 1
simple_after s (RawDeclareArray n size) = with_variable s n true size
simple_after s (RawDeclareWith n v) = with_variable (counted s (calls_in v)) n false 1
simple_after s (RawSet n v) = counted s (calls_in v)
simple_after s (RawSetElement n i v) = counted s (calls_in i + calls_in v)
simple_after s (RawCalling n es) = counted s (1 + all_calls_in es)
simple_after s (RawTableCalling n i e) = counted s (1 + calls_in i + calls_in e)

abbrev pub simples_of : Spot → List RawSimpleTree → List DeepSimple
simples_of s [] = []
simples_of s (p ∷ ps) = simple_of s p ∷ simples_of (simple_after s p) ps

abbrev pub simples_after : Spot → List RawSimpleTree → Spot
simples_after s [] = s
simples_after s (p ∷ ps) = simples_after (simple_after s p) ps

abbrev pub optional_after : Spot → Option RawExprTree → Spot
optional_after s None = s
optional_after s (Some e) = counted s (calls_in e)

abbrev pub step_after : Spot → Option RawSimpleTree → Spot
step_after s None = s
step_after s (Some p) = simple_after s p

-- the scope after a statement: a block, a body, and a `for` with its parts are scopes
abbrev mutual
  pub stmt_after : Spot → RawStmtTree → Spot
  stmt_after s (RawDo p) = simple_after s p
  stmt_after s RawEmpty = s
  stmt_after s (RawBlock ps) = left s (stmts_after (inside s) ps)
  stmt_after s (RawIf c p) = left s (stmt_after (inside (counted s (calls_in c))) p)
  stmt_after s (RawIfElse c p r) = left s (stmt_after (inside (left s (stmt_after (inside (counted s (calls_in c))) p))) r)
  stmt_after s (RawWhile c p) = left s (stmt_after (inside (counted s (calls_in c))) p)
  stmt_after s (RawFor init c step p) = left s (stmt_after (inside (step_after (optional_after (simples_after (inside s) init) c) step)) p)
  stmt_after s (RawBreak at) = s
  stmt_after s (RawContinue at) = s
  stmt_after s (RawReturn at v) = optional_after s v

  pub stmts_after : Spot → RawStmtTrees → Spot
  stmts_after s NoRawStmts = s
  stmts_after s (RawThen p ps) = stmts_after (stmt_after s p) ps

abbrev mutual
  pub stmt_of : Spot → RawStmtTree → DeepStmt
  stmt_of s (RawDo p) = Do (simple_of s p)
  stmt_of s RawEmpty = Empty
  stmt_of s (RawBlock ps) = Block (stmts_of (inside s) ps)
  stmt_of s (RawIf c p) = If (expr_of s.names s.site c) (stmt_of (inside (counted s (calls_in c))) p)
  stmt_of s (RawIfElse c p r) =
      IfElse (expr_of s.names s.site c) (stmt_of (inside (counted s (calls_in c))) p) (stmt_of (inside (left s (stmt_after (inside (counted s (calls_in c))) p))) r)
  stmt_of s (RawWhile c p) = While (expr_of s.names s.site c) (stmt_of (inside (counted s (calls_in c))) p)
  stmt_of s (RawFor init c step p) =
      For (simples_of (inside s) init) (option_map (expr_of (simples_after (inside s) init).names (simples_after (inside s) init).site) c)
      (option_map (simple_of (optional_after (simples_after (inside s) init) c)) step)
      (stmt_of (inside (step_after (optional_after (simples_after (inside s) init) c) step)) p)
  stmt_of s (RawBreak at) = Break
  stmt_of s (RawContinue at) = Continue
  stmt_of s (RawReturn at v) = Return (option_map (expr_of s.names s.site) v)

  pub stmts_of : Spot → RawStmtTrees → DeepStmts
  stmts_of s NoRawStmts = NoStmts
  stmts_of s (RawThen p ps) = Then (stmt_of s p) (stmts_of (stmt_after s p) ps)

-- ---- items

-- the resolved items so far
pub record DeepSofar : Type 0 where
  pub spot : Spot
  pub globals : List GlobalFact
  pub tables : List (List ℕ)
  pub functions : List DeepFunction

-- the part of this that `scope_rules` uses for what is outside functions
abbrev pub outer_of : DeepSofar → Sofar
outer_of w = record { spot = w.spot; globals = w.globals; tables = w.tables; functions = [] }

abbrev pub with_outer : DeepSofar → Sofar → DeepSofar
with_outer w o = record { spot = o.spot; globals = o.globals; tables = o.tables; functions = w.functions }

abbrev pub deep_start : DeepSofar
deep_start = record { spot = at_start.spot; globals = []; tables = []; functions = [] }

abbrev pub item_after : List Binding → DeepSofar → RawItemTree → DeepSofar
item_after defs w (RawGlobal n start) = with_outer w (with_global (outer_of w) n false (record { words = 1; start = start }))
item_after defs w (RawGlobalArray n size) = with_outer w (with_global (outer_of w) n true (record { words = size; start = 0 }))
item_after defs w (RawTableItem n size members) = with_outer w (with_table (outer_of w) n (members_of w.spot.names members))
item_after defs w (RawPrototypeItem gives n params) =
    record w { spot = record w.spot { names = with_function defs w.spot.names gives n (length params) (is_defined (find n.text w.spot.names)) } }
item_after defs w (RawFunctionItem gives n params body) =
    record w {
      spot = function_left w.spot (with_function defs w.spot.names gives n (length params) true) (stmts_after (body_spot defs w.spot gives n params) body);
      functions = w.functions ++ (record {
        params = length params;
        sizes = (stmts_after (body_spot defs w.spot gives n params) body).sizes;
        body = stmts_of (body_spot defs w.spot gives n params) body;
      }) ∷ [];
    }

abbrev pub items_after : List Binding → DeepSofar → List RawItemTree → DeepSofar
items_after defs w [] = w
items_after defs w (i ∷ is) = items_after defs (item_after defs w i) is

abbrev pub deep_parts : List RawItemTree → DeepSofar
deep_parts is = items_after (definitions is) deep_start is

-- the program of a source's tree
abbrev pub deep_program : List RawItemTree → DeepProgram
deep_program is = record {
  functions = (deep_parts is).functions;
  globals = (deep_parts is).globals;
  tables = (deep_parts is).tables;
  main = function_of (find (codes "main") (definitions is));
}
