-- A source as it is read, and its program with numbers in place of names.
use Rattle.std.specs.Prelude.{ℕ, true, List, [], ◌∷◌, Some, codes}
use Rattle.c_tree.specs.declared.operators.BinaryOperator.{BinaryOperator}
use Rattle.c_tree.specs.RawTrees.{RawExprTree, RawNumber, RawName, RawBinary, RawCall, RawDeclareWith, RawSet, RawCalling, RawTableCalling, RawDo, RawBlock, RawFor, RawReturn, NoRawStmts, RawThen, RawItemTree, RawTableItem, RawFunctionItem}
use Rattle.c_tree.specs.RawTrees as raw
use Rattle.deep_mean.specs.DeepTrees.{Spawned, Number, Local, Binary, Call, TableCall, DeclareWith, SetLocal, Calling, Do, Block, For, DeepProgram}
use Rattle.deep_mean.specs.DeepExamples.{in_order, arguments, returns, calls, function, text_name}

abbrev pub a_at : ℕ → RawExprTree
a_at at = RawName (text_name at (codes "a"))

-- g(a), with the places of its names
abbrev pub g_of_a : ℕ → ℕ → RawExprTree
g_of_a f at = RawCall (text_name f (codes "g")) (raw.And (a_at at) raw.NoExprs)

-- int g(int x) { return x; } int (*t[1])(int) = { g }; int main() { int a = 1; { int a = 2; t[a](g(a)); }
-- for (a = 0; a < 3; a = g(a)) spawn(g, g(a)); return a; }, in one line
abbrev pub scoped_source : List RawItemTree
scoped_source =
    RawFunctionItem true (text_name 4 (codes "g")) (text_name 10 (codes "x") ∷ []) (RawThen (RawReturn 15 (Some (RawName (text_name 22 (codes "x"))))) NoRawStmts)
    ∷ RawTableItem (text_name 33 (codes "t")) 1 (text_name 48 (codes "g") ∷ [])
    ∷ RawFunctionItem true (text_name 57 (codes "main")) [] (
    RawThen (RawDo (RawDeclareWith (text_name 70 (codes "a")) (RawNumber 1)))
    (RawThen (RawBlock (
    RawThen (RawDo (RawDeclareWith (text_name 83 (codes "a")) (RawNumber 2)))
    (RawThen (RawDo (RawTableCalling (text_name 90 (codes "t")) (a_at 92) (g_of_a 95 97))) NoRawStmts)))
    (RawThen (RawFor (RawSet (text_name 109 (codes "a")) (RawNumber 0) ∷ []) (Some (RawBinary BinaryOperator.Less (a_at 116) (RawNumber 3))) (Some (RawSet (text_name 123 (codes "a")) (g_of_a 127 129)))
    (RawDo (RawCalling (text_name 133 (codes "spawn")) (raw.And (RawName (text_name 139 (codes "g"))) (raw.And (g_of_a 142 144) raw.NoExprs)))))
    (RawThen (RawReturn 149 (Some (a_at 156))) NoRawStmts))))
    ∷ []

-- g is function 0, t table 0 and main function 1, which has two variables. The calls are 0 and 1 in the block, 2 in the step of the
-- `for`, and 3 and 4 in its body.
abbrev pub scoped_program : DeepProgram
scoped_program = record {
  functions =
      function 1 (1 ∷ []) (returns (Local 0) ∷ [])
      ∷ function 0 (1 ∷ 1 ∷ []) (
      Do (DeclareWith 0 (Number 1))
      ∷ Block (in_order (Do (DeclareWith 1 (Number 2)) ∷ Do (Calling (TableCall 0 0 (Local 1) (calls 1 0 (Local 1 ∷ [])))) ∷ []))
      ∷ For (SetLocal 0 (Number 0) ∷ []) (Some (Binary BinaryOperator.Less (Local 0) (Number 3))) (Some (SetLocal 0 (calls 2 0 (Local 0 ∷ []))))
      (Do (Calling (Call 3 (Spawned 0) (arguments (calls 4 0 (Local 0 ∷ []) ∷ [])))))
      ∷ returns (Local 0) ∷ [])
      ∷ [];
  globals = [];
  tables = (0 ∷ []) ∷ [];
  main = 1;
}
