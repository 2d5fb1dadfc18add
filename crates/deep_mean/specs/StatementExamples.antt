-- Small programs with loops, arrays, tables and modelled calls, on which the definitions are computed.
use Rattle.std.specs.Prelude.{[], ◌∷◌, Some, None}
use Rattle.c_tree.specs.declared.operators.BinaryOperator.{BinaryOperator}
use Rattle.cap_word.specs.declared.modelled_calls.ModelledCall.{ModelledCall}
use Rattle.deep_mean.specs.DeepTrees.{Modelled, DeepExpr, Number, Local, LocalElement, Binary, Call, TableCall, NoExprs, DeclareScalar, SetLocal, SetLocalElement, Do, Block, If, While, For, Break, Continue, DeepProgram}
use Rattle.deep_mean.specs.DeepExamples.{in_order, returns, calls, puts, sum_of, function, printing, prints}

-- int x; for (x = 0; x < 4; x = x + 1) { if (p(x) == 1) continue; put(x + 20); }
abbrev pub continues_a_for : DeepProgram
continues_a_for = printing (
    Do (DeclareScalar 0)
    ∷ For (SetLocal 0 (Number 0) ∷ []) (Some (Binary BinaryOperator.Less (Local 0) (Number 4))) (Some (SetLocal 0 (sum_of (Local 0) (Number 1)))) (Block (in_order (
    If (Binary BinaryOperator.Equal (calls 1 0 (Local 0 ∷ [])) (Number 1)) Continue
    ∷ puts 2 (sum_of (Local 0) (Number 20)) ∷ [])))
    ∷ returns (Number 0) ∷ [])

-- int x; for (x = p(0); x < 2; x = p(x + 1)) put(x + 20);
abbrev pub calls_in_a_for : DeepProgram
calls_in_a_for = printing (
    Do (DeclareScalar 0)
    ∷ For (SetLocal 0 (prints 1 0) ∷ []) (Some (Binary BinaryOperator.Less (Local 0) (Number 2))) (Some (SetLocal 0 (calls 2 0 (sum_of (Local 0) (Number 1) ∷ [])))) (puts 3 (sum_of (Local 0) (Number 20)))
    ∷ returns (Number 0) ∷ [])

-- int x; for (;;) { if (p(x) > 1) break; x = x + 1; } while (p(x) < 5) { if (x == 3) break; x = x + 1; } put(x + 10);
abbrev pub breaks_loops : DeepProgram
breaks_loops = printing (
    Do (DeclareScalar 0)
    ∷ For [] None None (Block (in_order (
    If (Binary BinaryOperator.Greater (calls 1 0 (Local 0 ∷ [])) (Number 1)) Break
    ∷ Do (SetLocal 0 (sum_of (Local 0) (Number 1))) ∷ [])))
    ∷ While (Binary BinaryOperator.Less (calls 2 0 (Local 0 ∷ [])) (Number 5)) (Block (in_order (
    If (Binary BinaryOperator.Equal (Local 0) (Number 3)) Break
    ∷ Do (SetLocal 0 (sum_of (Local 0) (Number 1))) ∷ [])))
    ∷ puts 3 (sum_of (Local 0) (Number 10))
    ∷ returns (Number 0) ∷ [])

-- int p(int v) { put(v); return v; } int main() { int a[2]; a[1] = p(7) + 1; put(a[p(1)]); a[i] = v; put(9); return 0;
-- } with this i and v
abbrev pub sets_an_element : DeepExpr → DeepExpr → DeepProgram
sets_an_element i v = record {
  functions =
      function 1 (1 ∷ []) (puts 0 (Local 0) ∷ returns (Local 0) ∷ [])
      ∷ function 0 (2 ∷ []) (
      Do (SetLocalElement 0 (Number 1) (sum_of (prints 1 7) (Number 1)))
      ∷ puts 2 (LocalElement 0 (prints 3 1))
      ∷ Do (SetLocalElement 0 i v)
      ∷ puts 6 (Number 9)
      ∷ returns (Number 0) ∷ [])
      ∷ [];
  globals = [];
  tables = [];
  main = 1;
}

-- a[2] = p(5) + 1; the index is out of range; it is tested after the value has been evaluated
abbrev pub sum_out_of_range : DeepProgram
sum_out_of_range = sets_an_element (Number 2) (sum_of (prints 4 5) (Number 1))

-- a[2] = p(5); so is the index for a whole call
abbrev pub call_out_of_range : DeepProgram
call_out_of_range = sets_an_element (Number 2) (prints 4 5)

-- a[0] = a[p(2)] + p(5); an index is tested when the element is read, before the call to its right
abbrev pub element_out_of_range : DeepProgram
element_out_of_range = sets_an_element (Number 0) (sum_of (LocalElement 0 (prints 4 2)) (prints 5 5))

-- int p(int v) { put(v); return v; } int q(int v) { put(v + 100); return v; } int (*t[2])(int) = { p, q };
-- int main() { put(t[1](p(4)) + t[0](5)); return 0; }
abbrev pub calls_both_members : DeepProgram
calls_both_members = record {
  functions =
      function 1 (1 ∷ []) (puts 0 (Local 0) ∷ returns (Local 0) ∷ [])
      ∷ function 1 (1 ∷ []) (puts 1 (sum_of (Local 0) (Number 100)) ∷ returns (Local 0) ∷ [])
      ∷ function 0 [] (puts 2 (sum_of (TableCall 3 0 (Number 1) (prints 4 4)) (TableCall 5 0 (Number 0) (Number 5))) ∷ returns (Number 0) ∷ [])
      ∷ [];
  globals = [];
  tables = (0 ∷ 1 ∷ []) ∷ [];
  main = 2;
}

-- int main() { int x; x = accept() - accept(); put(x); return 0; }
abbrev pub accepts_two : DeepProgram
accepts_two = record {
  functions =
      function 0 (1 ∷ []) (
      Do (DeclareScalar 0)
      ∷ Do (SetLocal 0 (Binary BinaryOperator.Subtract (Call 0 (Modelled ModelledCall.Accept) NoExprs) (Call 1 (Modelled ModelledCall.Accept) NoExprs)))
      ∷ puts 2 (Local 0)
      ∷ returns (Number 0) ∷ [])
      ∷ [];
  globals = [];
  tables = [];
  main = 0;
}
