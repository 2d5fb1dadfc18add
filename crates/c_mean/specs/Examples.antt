-- Small programs, as trees, on which the definitions are computed.
use Rattle.std.specs.Prelude.{◌≡◌, ℕ, true, false, List, [], ◌∷◌, map, Option, Some, None}
use Rattle.cap_word.specs.Runs.{Goes, moves}
use Rattle.cap_word.specs.declared.calls.Block as block
use Rattle.c_tree.specs.declared.operators.BinaryOperator.{BinaryOperator}
use Rattle.c_tree.specs.declared.operators.UnaryOperator.{UnaryOperator}
use Rattle.cap_word.specs.declared.modelled_calls.ModelledCall.{ModelledCall}
use Rattle.c_tree.specs.Trees.{ExprTree, Number, Local, Unary, Binary, CallFunction, CallTable, CallSpawn, CallModelled, Computed, Called, DeclareScalar, DeclareArray, DeclareWith, SetLocal, SetLocalElement, Calling, StmtTree, StmtTrees, Do, Block, If, While, For, Break, Continue, Return, NoStmts, Then, FunctionTree, ProgramTree}
use Rattle.c_mean.specs.Frames.{Place, Running, key_of}
use Rattle.c_mean.specs.Steps.{source_machine, started}
use Rattle.c_mean.specs.World.{Rest, Fresh, Blocked, Ended}

-- a tree of statements
abbrev pub in_order : List StmtTree → StmtTrees
in_order [] = NoStmts
in_order (s ∷ ss) = Then s (in_order ss)

abbrev pub returns : ExprTree → StmtTree
returns e = Return (Some (Computed e))

abbrev pub puts : ℕ → ExprTree → StmtTree
puts site e = Do (Calling (CallModelled site ModelledCall.Put (e ∷ [])))

-- an `int` function with its number of parameters, the sizes of its variables and its statements
abbrev pub int_function : ℕ → List ℕ → List StmtTree → FunctionTree
int_function params sizes ss = record { name = []; params = params; gives = true; sizes = sizes; body = in_order ss }

abbrev pub functions_alone : List FunctionTree → ℕ → ProgramTree
functions_alone functions main = record { functions = functions; globals = []; tables = []; main = main }

-- int main() { put(-2147483648 / -1); put(5 / 0); return 0; }
abbrev pub divisions : ProgramTree
divisions = functions_alone (
    int_function 0 [] (
    puts 0 (Binary BinaryOperator.Divide (Unary UnaryOperator.Negate (Number 2147483648)) (Unary UnaryOperator.Negate (Number 1)))
    ∷ puts 1 (Binary BinaryOperator.Divide (Number 5) (Number 0))
    ∷ returns (Number 0) ∷ [])
    ∷ []) 0

-- int g(int x) { return x; } int main() { int a; int b; a = g(1); return a; }
abbrev pub one_call : ProgramTree
one_call = functions_alone (
    int_function 1 (1 ∷ []) (returns (Local 0) ∷ [])
    ∷ int_function 0 (1 ∷ 1 ∷ []) (
    Do (DeclareScalar 0) ∷ Do (DeclareScalar 1)
    ∷ Do (SetLocal 0 (Called (CallFunction 0 0 (Number 1 ∷ []))))
    ∷ returns (Local 0) ∷ [])
    ∷ []) 1

-- int f(int n) { int r; if (n < 1) return 0; r = f(n - 1); return r + 1; }
-- int main() { int r; r = f(1); put(r); return 0; }
abbrev pub recursion : ProgramTree
recursion = functions_alone (
    int_function 1 (1 ∷ 1 ∷ []) (
    Do (DeclareScalar 1)
    ∷ If (Binary BinaryOperator.Less (Local 0) (Number 1)) (returns (Number 0))
    ∷ Do (SetLocal 1 (Called (CallFunction 0 0 (Binary BinaryOperator.Subtract (Local 0) (Number 1) ∷ []))))
    ∷ returns (Binary BinaryOperator.Add (Local 1) (Number 1)) ∷ [])
    ∷ int_function 0 (1 ∷ []) (
    Do (DeclareScalar 0)
    ∷ Do (SetLocal 0 (Called (CallFunction 1 0 (Number 1 ∷ []))))
    ∷ puts 2 (Local 0)
    ∷ returns (Number 0) ∷ [])
    ∷ []) 1

-- int main() { int k = 3; int a[2]; int b = 9; a[1] = k; put(b); a[INDEX] = 7; return 0; }
abbrev pub index_beyond : ExprTree → ProgramTree
index_beyond index = functions_alone (
    int_function 0 (1 ∷ 2 ∷ 1 ∷ []) (
    Do (DeclareWith 0 (Computed (Number 3)))
    ∷ Do (DeclareArray 1 2)
    ∷ Do (DeclareWith 2 (Computed (Number 9)))
    ∷ Do (SetLocalElement 1 (Number 1) (Computed (Local 0)))
    ∷ puts 0 (Local 2)
    ∷ Do (SetLocalElement 1 index (Computed (Number 7)))
    ∷ returns (Number 0) ∷ [])
    ∷ []) 0

-- int f(int x) { return x + 1; } int g(int x) { return x * 2; } int (*t[2])(int) = { f, g };
-- int main() { int r; r = t[1](21); put(r); r = t[2](0); return r; }
abbrev pub table_calls : ProgramTree
table_calls = record {
  functions =
      int_function 1 (1 ∷ []) (returns (Binary BinaryOperator.Add (Local 0) (Number 1)) ∷ [])
      ∷ int_function 1 (1 ∷ []) (returns (Binary BinaryOperator.Multiply (Local 0) (Number 2)) ∷ [])
      ∷ int_function 0 (1 ∷ []) (
      Do (DeclareScalar 0)
      ∷ Do (SetLocal 0 (Called (CallTable 0 0 (Number 1) (Number 21))))
      ∷ puts 1 (Local 0)
      ∷ Do (SetLocal 0 (Called (CallTable 2 0 (Number 2) (Number 0))))
      ∷ returns (Local 0) ∷ [])
      ∷ [];
  globals = [];
  tables = (0 ∷ 1 ∷ []) ∷ [];
  main = 2;
}

-- int h(int n) { int r; if (n < 1) { yield(); return 0; } r = h(n - 1); return r; } int main() { int r; r = h(9); return r; }
abbrev pub deep_yield : ProgramTree
deep_yield = functions_alone (
    int_function 1 (1 ∷ 1 ∷ []) (
    Do (DeclareScalar 1)
    ∷ If (Binary BinaryOperator.Less (Local 0) (Number 1)) (Block (in_order (Do (Calling (CallModelled 0 ModelledCall.Yield [])) ∷ returns (Number 0) ∷ [])))
    ∷ Do (SetLocal 1 (Called (CallFunction 1 0 (Binary BinaryOperator.Subtract (Local 0) (Number 1) ∷ []))))
    ∷ returns (Local 1) ∷ [])
    ∷ int_function 0 (1 ∷ []) (
    Do (DeclareScalar 0)
    ∷ Do (SetLocal 0 (Called (CallFunction 2 0 (Number 9 ∷ []))))
    ∷ returns (Local 0) ∷ [])
    ∷ []) 1

-- void worker(int n) { int c; int v; while (1) { c = accept(); take(1, 1); v = wait(c); put(v + n); give(1, 1); } }
-- int main() { spawn(worker, 100); spawn(worker, 200); return 0; }
abbrev pub worker_loop : StmtTree
worker_loop = While (Number 1) (Block (in_order (
    Do (SetLocal 1 (Called (CallModelled 0 ModelledCall.Accept [])))
    ∷ Do (Calling (CallModelled 1 ModelledCall.Take (Number 1 ∷ Number 1 ∷ [])))
    ∷ Do (SetLocal 2 (Called (CallModelled 2 ModelledCall.Wait (Local 1 ∷ []))))
    ∷ puts 3 (Binary BinaryOperator.Add (Local 2) (Local 0))
    ∷ Do (Calling (CallModelled 4 ModelledCall.Give (Number 1 ∷ Number 1 ∷ []))) ∷ [])))

abbrev pub server : ProgramTree
server = functions_alone (
    record { name = []; params = 1; gives = false; sizes = 1 ∷ 1 ∷ 1 ∷ []; body = in_order (Do (DeclareScalar 1) ∷ Do (DeclareScalar 2) ∷ worker_loop ∷ []) }
    ∷ int_function 0 [] (
    Do (Calling (CallSpawn 5 0 (Number 100)))
    ∷ Do (Calling (CallSpawn 6 0 (Number 200)))
    ∷ returns (Number 0) ∷ [])
    ∷ []) 1

-- int main() { int k; for (k = 0; k < 5; k = k + 1) { if (k == 1) continue; if (k == 3) break; int x; put(k + x); x = 9; } return 0; }
abbrev pub loop_jumps : ProgramTree
loop_jumps = functions_alone (
    int_function 0 (1 ∷ 1 ∷ []) (
    Do (DeclareScalar 0)
    ∷ For (SetLocal 0 (Computed (Number 0)) ∷ []) (Some (Binary BinaryOperator.Less (Local 0) (Number 5))) (Some (SetLocal 0 (Computed (Binary BinaryOperator.Add (Local 0) (Number 1))))) (Block (in_order (
    If (Binary BinaryOperator.Equal (Local 0) (Number 1)) Continue
    ∷ If (Binary BinaryOperator.Equal (Local 0) (Number 3)) Break
    ∷ Do (DeclareScalar 1)
    ∷ puts 0 (Binary BinaryOperator.Add (Local 0) (Local 1))
    ∷ Do (SetLocal 1 (Computed (Number 9))) ∷ [])))
    ∷ returns (Number 0) ∷ [])
    ∷ []) 0

-- int main() { int k = 0; while (k < 3) { k = k + 1; if (k == 2) continue; put(k); } return 0; }
abbrev pub while_jumps : ProgramTree
while_jumps = functions_alone (
    int_function 0 (1 ∷ []) (
    Do (DeclareWith 0 (Computed (Number 0)))
    ∷ While (Binary BinaryOperator.Less (Local 0) (Number 3)) (Block (in_order (
    Do (SetLocal 0 (Computed (Binary BinaryOperator.Add (Local 0) (Number 1))))
    ∷ If (Binary BinaryOperator.Equal (Local 0) (Number 2)) Continue
    ∷ puts 0 (Local 0) ∷ [])))
    ∷ returns (Number 0) ∷ [])
    ∷ []) 0

-- a `for` with nothing in its parentheses
abbrev pub forever : List StmtTree → StmtTree
forever ss = For [] None None (Block (in_order ss))

-- int main() { while (1) { put(1); break; for (;;) { put(2); } } put(3); return 0; }
abbrev pub leave_before_turns : ProgramTree
leave_before_turns = functions_alone (
    int_function 0 [] (
    While (Number 1) (Block (in_order (
    puts 0 (Number 1)
    ∷ Break
    ∷ forever (puts 1 (Number 2) ∷ []) ∷ [])))
    ∷ puts 2 (Number 3)
    ∷ returns (Number 0) ∷ [])
    ∷ []) 0

-- int main() { int k = 0; while (k < 2) { k = k + 1; put(k); if (1) continue; for (;;) { put(99); break; } } put(3); return 0; }
abbrev pub skip_before_turns : ProgramTree
skip_before_turns = functions_alone (
    int_function 0 (1 ∷ []) (
    Do (DeclareWith 0 (Computed (Number 0)))
    ∷ While (Binary BinaryOperator.Less (Local 0) (Number 2)) (Block (in_order (
    Do (SetLocal 0 (Computed (Binary BinaryOperator.Add (Local 0) (Number 1))))
    ∷ puts 0 (Local 0)
    ∷ If (Number 1) Continue
    ∷ forever (puts 1 (Number 99) ∷ Break ∷ []) ∷ [])))
    ∷ puts 2 (Number 3)
    ∷ returns (Number 0) ∷ [])
    ∷ []) 0

-- int main() { int k = 0; for (;;) { k = k + 1; if (k == 3) break; for (;;) { put(k); break; } } put(9); return 0; }
abbrev pub turns_without_condition : ProgramTree
turns_without_condition = functions_alone (
    int_function 0 (1 ∷ []) (
    Do (DeclareWith 0 (Computed (Number 0)))
    ∷ forever (
    Do (SetLocal 0 (Computed (Binary BinaryOperator.Add (Local 0) (Number 1))))
    ∷ If (Binary BinaryOperator.Equal (Local 0) (Number 3)) Break
    ∷ forever (puts 0 (Local 0) ∷ Break ∷ []) ∷ [])
    ∷ puts 1 (Number 9)
    ∷ returns (Number 0) ∷ [])
    ∷ []) 0

-- int main() { for (;;) break; return 0; }
abbrev pub one_turn : ProgramTree
one_turn = functions_alone (int_function 0 [] (For [] None None Break ∷ returns (Number 0) ∷ []) ∷ []) 0

-- int f() { put(5); return 1; } int main() { int a[2]; a[2] = f(); return 0; }
abbrev pub late_range_test : ProgramTree
late_range_test = functions_alone (
    int_function 0 [] (puts 0 (Number 5) ∷ returns (Number 1) ∷ [])
    ∷ int_function 0 (2 ∷ []) (
    Do (DeclareArray 0 2)
    ∷ Do (SetLocalElement 0 (Number 2) (Called (CallFunction 1 0 [])))
    ∷ returns (Number 0) ∷ [])
    ∷ []) 1

-- int main() { CALL; return 0; }, of one modelled call
abbrev pub one_modelled : ModelledCall → List ExprTree → ProgramTree
one_modelled call arguments = functions_alone (int_function 0 [] (Do (Calling (CallModelled 0 call arguments)) ∷ returns (Number 0) ∷ []) ∷ []) 0

-- ---- what the examples examine

-- the frames of a thread: function, and words of its names
abbrev pub frames_of : Running → List (ℕ × List (List ℕ))
frames_of thread = (thread.frame.function, thread.frame.names) ∷ map (λ w. (w.frame.function, w.frame.names)) thread.below

-- after this number of steps from the start of `main`, the thread continues with these frames, which wait at these
-- sites for results that go to these places
abbrev pub HasFrames : ProgramTree → ℕ → List (ℕ × List (List ℕ)) → List (ℕ × Place) → Type 0
HasFrames program n frames waits =
    (thread : Running) × (moves (source_machine program) n (started program program.main [] []) ≡ Goes thread)
    × (frames_of thread ≡ frames) × (map (λ w. (w.site, w.place)) thread.below ≡ waits)

-- the call at which a thread is blocked, and its key
abbrev pub rests_in : Rest → Option (block.Block × List ℕ)
rests_in (Fresh function arguments) = None
rests_in (Blocked block waiting) = Some (block, key_of waiting)
rests_in Ended = None
