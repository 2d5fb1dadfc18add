-- Small programs, as trees, on which the definitions are computed.
use Rattle.std.specs.Prelude.{ℕ, true, List, [], ◌∷◌, Some, None, codes}
use Rattle.c_tree.specs.declared.operators.BinaryOperator.{BinaryOperator}
use Rattle.cap_word.specs.declared.modelled_calls.ModelledCall.{ModelledCall}
use Rattle.c_tree.specs.RawTrees.{NameTree, RawNumber, RawName, RawBinary, RawCall, RawDeclareWith, RawDo, RawReturn, NoRawStmts, RawThen, RawItemTree, RawFunctionItem}
use Rattle.c_tree.specs.RawTrees as raw
use Rattle.c_mean.specs.World.{empty_exchange}
use Rattle.deep_mean.specs.DeepTrees.{Function, Modelled, Spawned, DeepExpr, Number, Local, Global, GlobalElement, Parenthesized, Binary, LogicalAnd, LogicalOr, Conditional, Call, TableCall, DeepExprs, NoExprs, And, DeclareScalar, DeclareWith, SetLocal, SetGlobal, SetGlobalElement, Calling, DeepStmt, DeepStmts, Do, Block, If, While, Continue, Return, NoStmts, Then, DeepFunction, DeepProgram}
use Rattle.deep_mean.specs.DeepFrames.{key_of}
use Rattle.deep_mean.specs.DeepWorld.{DeepRest, Fresh, Blocked, Ended, RunsTo, start_world}

abbrev pub in_order : List DeepStmt → DeepStmts
in_order [] = NoStmts
in_order (s ∷ ss) = Then s (in_order ss)

abbrev pub arguments : List DeepExpr → DeepExprs
arguments [] = NoExprs
arguments (e ∷ es) = And e (arguments es)

abbrev pub returns : DeepExpr → DeepStmt
returns e = Return (Some e)

abbrev pub calls : ℕ → ℕ → List DeepExpr → DeepExpr
calls site f es = Call site (Function f) (arguments es)

abbrev pub puts : ℕ → DeepExpr → DeepStmt
puts site e = Do (Calling (Call site (Modelled ModelledCall.Put) (arguments (e ∷ []))))

abbrev pub sum_of : DeepExpr → DeepExpr → DeepExpr
sum_of l r = Binary BinaryOperator.Add l r

abbrev pub function : ℕ → List ℕ → List DeepStmt → DeepFunction
function params sizes ss = record { params = params; sizes = sizes; body = in_order ss }

-- int g = 1; int f() { g = 5; return 10; }, and a main with these statements and one name, x
abbrev pub changing : List DeepStmt → DeepProgram
changing ss = record {
  functions = function 0 [] (Do (SetGlobal 0 (Number 5)) ∷ returns (Number 10) ∷ []) ∷ function 0 (1 ∷ []) ss ∷ [];
  globals = record { words = 1; start = 1 } ∷ record { words = 8; start = 0 } ∷ [];
  tables = [];
  main = 1;
}

-- main ends and has output these values; the globals aren't examined
abbrev pub PutsInAll : DeepProgram → List (ℕ × ℕ) → Type 0
PutsInAll program outputs =
    (globals : List (List ℕ)) × RunsTo program [] (start_world program) 0 (record { trap = None; world = record { threads = Ended ∷ []; globals = globals; exchange = empty_exchange; outputs = outputs } })

-- put(g + f()); put(f() + g); x = g + (f()) + g; put(x);
abbrev pub reads_left_of_calls : DeepProgram
reads_left_of_calls = changing (
    puts 0 (sum_of (Global 0) (calls 1 0 []))
    ∷ Do (SetGlobal 0 (Number 2))
    ∷ puts 2 (sum_of (calls 3 0 []) (Global 0))
    ∷ Do (SetGlobal 0 (Number 3))
    ∷ Do (SetLocal 0 (sum_of (sum_of (Global 0) (Parenthesized (calls 4 0 []))) (Global 0)))
    ∷ puts 5 (Local 0)
    ∷ returns (Number 0) ∷ [])

-- b[g] = f() + 1; put(b[1]); put(b[5]); put(b[f() - 9] + b[g]);
abbrev pub indexes_before_calls : DeepProgram
indexes_before_calls = changing (
    Do (SetGlobalElement 1 (Global 0) (sum_of (calls 0 0 []) (Number 1)))
    ∷ puts 1 (GlobalElement 1 (Number 1))
    ∷ puts 2 (GlobalElement 1 (Number 5))
    ∷ puts 3 (sum_of (GlobalElement 1 (Binary BinaryOperator.Subtract (calls 4 0 []) (Number 9))) (GlobalElement 1 (Global 0)))
    ∷ returns (Number 0) ∷ [])

-- int p(int v) { put(v); return v; }, and a main with these statements and one name, x
abbrev pub printing : List DeepStmt → DeepProgram
printing ss = record {
  functions = function 1 (1 ∷ []) (puts 0 (Local 0) ∷ returns (Local 0) ∷ []) ∷ function 0 (1 ∷ []) ss ∷ [];
  globals = [];
  tables = (0 ∷ []) ∷ [];
  main = 1;
}

abbrev pub prints : ℕ → ℕ → DeepExpr
prints site v = calls site 0 (Number v ∷ [])

-- put(p(0) && p(1)); put(p(2) && p(3)); put(p(0) || p(4)); put(p(5) || p(6)); put(p(7) ? p(8) : p(9)); put(p(0) ? p(10) : p(11));
abbrev pub takes_what_it_needs : DeepProgram
takes_what_it_needs = printing (
    puts 1 (LogicalAnd (prints 2 0) (prints 3 1))
    ∷ puts 4 (LogicalAnd (prints 5 2) (prints 6 3))
    ∷ puts 7 (LogicalOr (prints 8 0) (prints 9 4))
    ∷ puts 10 (LogicalOr (prints 11 5) (prints 12 6))
    ∷ puts 13 (Conditional (prints 14 7) (prints 15 8) (prints 16 9))
    ∷ puts 17 (Conditional (prints 18 0) (prints 19 10) (prints 20 11))
    ∷ returns (Number 0) ∷ [])

-- int x; while (p(x) < 3) { x = x + 1; if (x == 2) continue; put(x + 20); }
abbrev pub tests_a_call : DeepProgram
tests_a_call = printing (
    Do (DeclareScalar 0)
    ∷ While (Binary BinaryOperator.Less (calls 1 0 (Local 0 ∷ [])) (Number 3)) (Block (in_order (
    Do (SetLocal 0 (sum_of (Local 0) (Number 1)))
    ∷ If (Binary BinaryOperator.Equal (Local 0) (Number 2)) Continue
    ∷ puts 2 (sum_of (Local 0) (Number 20)) ∷ [])))
    ∷ returns (Number 0) ∷ [])

-- int add(int a, int b) { return a + b; } int (*t[1])(int) = { p };
-- put(add(p(1), add(x + 2, p(3)))); put(t[p(0)](p(4)));
abbrev pub calls_in_arguments : DeepProgram
calls_in_arguments = record {
  functions =
      function 1 (1 ∷ []) (puts 0 (Local 0) ∷ returns (Local 0) ∷ [])
      ∷ function 2 (1 ∷ 1 ∷ []) (returns (sum_of (Local 0) (Local 1)) ∷ [])
      ∷ function 0 (1 ∷ []) (
      puts 1 (calls 2 1 (prints 3 1 ∷ calls 4 1 (sum_of (Local 0) (Number 2) ∷ prints 5 3 ∷ []) ∷ []))
      ∷ puts 6 (TableCall 7 0 (prints 8 0) (prints 9 4))
      ∷ returns (Number 0) ∷ [])
      ∷ [];
  globals = [];
  tables = (0 ∷ []) ∷ [];
  main = 2;
}

-- put(t[p(1)](p(2))): the index isn't in range; it is tested after the argument
abbrev pub index_tested_last : DeepProgram
index_tested_last = printing (puts 1 (TableCall 2 0 (prints 3 1) (prints 4 2)) ∷ returns (Number 0) ∷ [])

-- int y(int n) { yield(); return n; } int main() { return 1 + y(y(2) + 3); }
abbrev pub yields_within : DeepProgram
yields_within = record {
  functions =
      function 1 (1 ∷ []) (Do (Calling (Call 0 (Modelled ModelledCall.Yield) NoExprs)) ∷ returns (Local 0) ∷ [])
      ∷ function 0 [] (returns (sum_of (Number 1) (calls 1 0 (sum_of (calls 2 0 (Number 2 ∷ [])) (Number 3) ∷ []))) ∷ [])
      ∷ [];
  globals = [];
  tables = [];
  main = 1;
}

-- put(spawn(p, p(5)) + self()): a thread starts with the value
abbrev pub spawns_with_a_call : DeepProgram
spawns_with_a_call = printing (
    puts 1 (sum_of (Call 2 (Spawned 0) (arguments (prints 3 5 ∷ []))) (Call 4 (Modelled ModelledCall.SelfNumber) NoExprs)) ∷ returns (Number 0) ∷ [])

-- the key of a thread's blocking call
abbrev pub key_in : DeepRest → List ℕ
key_in (Fresh function arguments) = []
key_in (Blocked block waiting) = key_of waiting
key_in Ended = []

-- ---- a source as it is read

abbrev pub text_name : ℕ → List ℕ → NameTree
text_name at text = record { at = at; text = text }

-- int g(int x) { return x; } int main() { int a = 7; return g(g(a)) + g(1); }, in which `main` has a variable a
abbrev pub named_source : List RawItemTree
named_source =
    RawFunctionItem true (text_name 4 (codes "g")) (text_name 10 (codes "x") ∷ []) (RawThen (RawReturn 15 (Some (RawName (text_name 22 (codes "x"))))) NoRawStmts)
    ∷ RawFunctionItem true (text_name 31 (codes "main")) [] (
    RawThen (RawDo (RawDeclareWith (text_name 44 (codes "a")) (RawNumber 7)))
    (RawThen (RawReturn 51 (Some (RawBinary BinaryOperator.Add
    (RawCall (text_name 58 (codes "g")) (raw.And (RawCall (text_name 60 (codes "g")) (raw.And (RawName (text_name 62 (codes "a"))) raw.NoExprs)) raw.NoExprs))
    (RawCall (text_name 68 (codes "g")) (raw.And (RawNumber 1) raw.NoExprs)))))
    NoRawStmts))
    ∷ []

-- the same with numbers: g is function 0 and main function 1, and the calls are 0, 1 and 2 in the order of their names
abbrev pub named_program : DeepProgram
named_program = record {
  functions =
      function 1 (1 ∷ []) (returns (Local 0) ∷ [])
      ∷ function 0 (1 ∷ []) (Do (DeclareWith 0 (Number 7)) ∷ returns (sum_of (calls 0 0 (calls 1 0 (Local 0 ∷ []) ∷ [])) (calls 2 0 (Number 1 ∷ []))) ∷ [])
      ∷ [];
  globals = [];
  tables = [];
  main = 1;
}
