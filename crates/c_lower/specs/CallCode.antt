-- The operations of calls and of right sides.
use Rattle.std.specs.Prelude.{ℕ, ◌+◌, List, [], ◌∷◌, ◌++◌, Option, Some}
use Rattle.cap_word.specs.ModelledCalls.{number_of}
use Rattle.c_tree.specs.Trees.{ExprTree, CallTree, CallFunction, CallTable, CallSpawn, CallModelled, RightTree, Computed, Called}
use Rattle.flat_code.specs.declared.operations.Op.{Op}
use Rattle.c_lower.specs.ExprCode.{expr_size, expr_code}

-- ---- arguments

abbrev pub arguments_size : List ExprTree → ℕ
arguments_size [] = 0
arguments_size (e ∷ es) = expr_size e + arguments_size es

-- arguments from left to right, each into its own temporary, the first into variable k
abbrev pub arguments_code : List ExprTree → (p k : ℕ) → List Op
arguments_code [] p k = []
arguments_code (e ∷ es) p k = expr_code e p k ++ arguments_code es (p + expr_size e) (k + 1)

-- the variables that contain them
abbrev pub arguments_in : List ExprTree → ℕ → List ℕ
arguments_in [] k = []
arguments_in (e ∷ es) k = k ∷ arguments_in es (k + 1)

-- ---- calls

abbrev pub call_size : CallTree → ℕ
call_size (CallFunction s f es) = arguments_size es + 1
call_size (CallTable s t i e) = expr_size i + expr_size e + 1
call_size (CallSpawn s f e) = expr_size e + 1
call_size (CallModelled s m es) = arguments_size es + 1

-- a call; its index and arguments go to the temporaries from variable k on, and its result, if it is used, to variable
-- d
abbrev pub call_code : CallTree → (p k : ℕ) → Option ℕ → List Op
call_code (CallFunction s f es) p k d = arguments_code es p k ++ (Op.Call s d f (arguments_in es k) ∷ [])
call_code (CallTable s t i e) p k d = expr_code i p k ++ expr_code e (p + expr_size i) (k + 1) ++ (Op.CallTable s d t k (k + 1) ∷ [])
call_code (CallSpawn s f e) p k d = expr_code e p k ++ (Op.Spawn s d f k ∷ [])
call_code (CallModelled s m es) p k d = arguments_code es p k ++ (Op.Model s d (number_of m) (arguments_in es k) ∷ [])

-- ---- right sides

-- a right side that goes to variable x: a value through the temporary k, the result of a call directly
abbrev pub set_size : RightTree → ℕ
set_size (Computed e) = expr_size e + 1
set_size (Called c) = call_size c

abbrev pub set_code : RightTree → (p k x : ℕ) → List Op
set_code (Computed e) p k x = expr_code e p k ++ (Op.Copy x k ∷ [])
set_code (Called c) p k x = call_code c p k (Some x)

-- a right side that goes to the temporary k, from where it is stored or returned
abbrev pub held_size : RightTree → ℕ
held_size (Computed e) = expr_size e
held_size (Called c) = call_size c

abbrev pub held_code : RightTree → (p k : ℕ) → List Op
held_code (Computed e) p k = expr_code e p k
held_code (Called c) p k = call_code c p k (Some k)
