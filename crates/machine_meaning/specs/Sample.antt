-- A small program, and a thread of it at a modelled call, in the source and in flat code:
-- `int g(int x) { put(x); return x; } int main() { int a; a = g(1); return a; }`
use Rattle.std.specs.Prelude.{true, List, [], ◌∷◌, Some}
use Rattle.cap_word.specs.declared.modelled_calls.ModelledCall.{ModelledCall}
use Rattle.c_tree.specs.Trees.{Number, Local, CallFunction, CallModelled, Computed, Called, DeclareScalar, SetLocal, Calling, Do, Return, NoStmts, Then, FunctionTree, ProgramTree}
use Rattle.c_mean.specs.Frames.{Nowhere, InLocal, Waiting}
use Rattle.c_mean.specs.ToDo.{Item, GiveBack}
use Rattle.flat_code.specs.Frames.{FlatWaiting}

-- `g` prints its argument and returns it
abbrev pub printing : FunctionTree
printing = record {
  name = 103 ∷ [];
  params = 1;
  gives = true;
  sizes = 1 ∷ [];
  body = Then (Do (Calling (CallModelled 0 ModelledCall.Put (Local 0 ∷ [])))) (Then (Return (Some (Computed (Local 0)))) NoStmts);
}

abbrev pub calling : FunctionTree
calling = record {
  name = 109 ∷ 97 ∷ 105 ∷ 110 ∷ [];
  params = 0;
  gives = true;
  sizes = 1 ∷ [];
  body = Then (Do (DeclareScalar 0)) (Then (Do (SetLocal 0 (Called (CallFunction 1 0 (Number 1 ∷ []))))) (Then (Return (Some (Computed (Local 0)))) NoStmts));
}

abbrev pub nested : ProgramTree
nested = record { functions = printing ∷ calling ∷ []; globals = []; tables = []; main = 1 }

-- what both frames still have to do
abbrev pub returning : List Item
returning = GiveBack (Some (Computed (Local 0))) ∷ []

-- `g` is at `put`, with 1 in `x`; `main` waits for its result, which is assigned to `a`
abbrev pub nested_waiting : Waiting
nested_waiting = record {
  front = record { frame = record { function = 0; names = (1 ∷ []) ∷ []; to_do = returning }; site = 0; place = Nowhere };
  below = record { frame = record { function = 1; names = (0 ∷ []) ∷ []; to_do = returning }; site = 1; place = InLocal 0 } ∷ [];
}

-- the same in flat code, where each argument is also in the first temporary
abbrev pub nested_flat : FlatWaiting
nested_flat = record {
  frame = record { function = 0; next = 1; variables = Some (1 ∷ []) ∷ Some (1 ∷ []) ∷ [] };
  below = record { function = 1; next = 2; variables = Some (0 ∷ []) ∷ Some (1 ∷ []) ∷ [] } ∷ [];
}
