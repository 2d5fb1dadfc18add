-- Small programs in flat code, and what a thread that runs `main` asks and how it stops.
use Rattle.std.specs.Prelude.{ℕ, true, List, [], ◌∷◌, Some, None}
use Rattle.cap_word.specs.Calls.{Question}
use Rattle.cap_word.specs.Runs.{Seen, run, seen}
use Rattle.flat_code.specs.declared.operations.Op.{Op}
use Rattle.flat_code.specs.declared.operators.BinOp.{BinOp}
use Rattle.flat_code.specs.declared.functions.FlatFunction.{FlatFunction}
use Rattle.flat_code.specs.Codes.{FlatCode}
use Rattle.flat_code.specs.Frames.{End}
use Rattle.flat_code.specs.Step.{flat_machine, started, start_globals}

-- an `int` function with its number of parameters
abbrev pub giving : ℕ → List ℕ → List Op → FlatFunction
giving params sizes ops = record { params = params; gives = true; sizes = sizes; ops = ops }

abbrev pub program_of : List FlatFunction → List (List ℕ) → ℕ → FlatCode
program_of functions tables main = record { functions = functions; globals = []; tables = tables; main = main }

-- what is seen of `main` within n steps, if each call is answered by 0
abbrev pub seen_of_main : FlatCode → ℕ → Seen Question End
seen_of_main code n = seen (run (flat_machine code) (λ asked. record { result = 0; globals = [] }) n [] (started code code.main [] (start_globals code)))

-- `int g(int x) { return x; } int main() { int a; int b; a = g(1); return a; }`
abbrev pub passing : FlatCode
passing =
    program_of (
    giving 1 (1 ∷ 1 ∷ []) (Op.Copy 1 0 ∷ Op.Return (Some 1) ∷ Op.Const 1 0 ∷ Op.Return (Some 1) ∷ []) ∷
    giving 0 (1 ∷ 1 ∷ 1 ∷ []) (
    Op.Const 0 0 ∷ Op.Const 1 0 ∷ Op.Const 2 1 ∷ Op.Call 0 (Some 0) 0 (2 ∷ []) ∷ Op.Copy 2 0 ∷ Op.Return (Some 2) ∷
    Op.Const 2 0 ∷ Op.Return (Some 2) ∷ []) ∷ []) [] 1

-- `int f(int n) { int r; if (n < 1) return 0; r = f(n - 1); return r + 1; }
--  int main() { int r; r = f(1); put(r); return 0; }`
abbrev pub descending : FlatCode
descending =
    program_of (
    giving 1 (1 ∷ 1 ∷ 1 ∷ 1 ∷ []) (
    Op.Const 1 0 ∷ Op.Copy 2 0 ∷ Op.Const 3 1 ∷ Op.Bin BinOp.Less 2 2 3 ∷ Op.JumpZero 2 7 ∷ Op.Const 2 0 ∷
    Op.Return (Some 2) ∷ Op.Copy 2 0 ∷ Op.Const 3 1 ∷ Op.Bin BinOp.Subtract 2 2 3 ∷ Op.Call 0 (Some 1) 0 (2 ∷ []) ∷
    Op.Copy 2 1 ∷ Op.Const 3 1 ∷ Op.Bin BinOp.Add 2 2 3 ∷ Op.Return (Some 2) ∷ Op.Const 2 0 ∷ Op.Return (Some 2) ∷ []) ∷
    giving 0 (1 ∷ 1 ∷ []) (
    Op.Const 0 0 ∷ Op.Const 1 1 ∷ Op.Call 1 (Some 0) 0 (1 ∷ []) ∷ Op.Copy 1 0 ∷ Op.Model 2 None 3 (1 ∷ []) ∷
    Op.Const 1 0 ∷ Op.Return (Some 1) ∷ Op.Const 1 0 ∷ Op.Return (Some 1) ∷ []) ∷ []) [] 1

-- `int main() { int k = 3; int a[2]; int b = 9; a[1] = k; put(b); a[2] = 7; return 0; }`
abbrev pub overrunning : FlatCode
overrunning =
    program_of (
    giving 0 (1 ∷ 2 ∷ 1 ∷ 1 ∷ 1 ∷ []) (
    Op.Const 3 3 ∷ Op.Copy 0 3 ∷ Op.Zero 1 ∷ Op.Const 3 9 ∷ Op.Copy 2 3 ∷ Op.Const 3 1 ∷ Op.Copy 4 0 ∷
    Op.StoreLocal 1 3 4 ∷ Op.Copy 3 2 ∷ Op.Model 0 None 3 (3 ∷ []) ∷ Op.Const 3 2 ∷ Op.Const 4 7 ∷ Op.StoreLocal 1 3 4 ∷
    Op.Const 3 0 ∷ Op.Return (Some 3) ∷ Op.Const 3 0 ∷ Op.Return (Some 3) ∷ []) ∷ []) [] 0

-- `int f(int x) { return x + 1; } int g(int x) { return x * 2; } int (*t[2])(int) = { f, g };
--  int main() { int r; r = t[1](21); put(r); r = t[2](0); return r; }`
abbrev pub choosing : FlatCode
choosing =
    program_of (
    giving 1 (1 ∷ 1 ∷ 1 ∷ []) (
    Op.Copy 1 0 ∷ Op.Const 2 1 ∷ Op.Bin BinOp.Add 1 1 2 ∷ Op.Return (Some 1) ∷ Op.Const 1 0 ∷ Op.Return (Some 1) ∷ []) ∷
    giving 1 (1 ∷ 1 ∷ 1 ∷ []) (
    Op.Copy 1 0 ∷ Op.Const 2 2 ∷ Op.Bin BinOp.Multiply 1 1 2 ∷ Op.Return (Some 1) ∷ Op.Const 1 0 ∷ Op.Return (Some 1) ∷ []) ∷
    giving 0 (1 ∷ 1 ∷ 1 ∷ []) (
    Op.Const 0 0 ∷ Op.Const 1 1 ∷ Op.Const 2 21 ∷ Op.CallTable 0 (Some 0) 0 1 2 ∷ Op.Copy 1 0 ∷ Op.Model 1 None 3 (1 ∷ []) ∷
    Op.Const 1 2 ∷ Op.Const 2 0 ∷ Op.CallTable 2 (Some 0) 0 1 2 ∷ Op.Copy 1 0 ∷ Op.Return (Some 1) ∷ Op.Const 1 0 ∷
    Op.Return (Some 1) ∷ []) ∷ []) ((0 ∷ 1 ∷ []) ∷ []) 2
