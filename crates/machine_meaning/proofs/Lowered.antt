-- The flat code of a program that is well scoped has each function's operations in their place.
use Rattle.machine_meaning.proofs.Common.{◌≡◌, ℕ, zero, suc, ◌+◌, ◌<◌, false, List, [], ◌∷◌, ◌++◌, map, length, Some, refl, sym, ap, ◌∙◌, subst, arith, length-append, slice_get, slice_index, slice_index_or, AllByRecursion, length-map, get_or-map, get_or_append_left, function_temporaries, FunctionTree, ProgramTree, NoStmts, signature_of, IsFunctionScoped, AreFunctionsScoped, IsWellScoped, Signature, IsMember, IsTable, function_at, Op, FlatFunction, operation_at, closing_code, function_ops, function_sizes, lowered_function, lowered, stmts_size, stmts_code, stmts_length}
use Rattle.c_tree.specs.Sizes as words
use Rattle.flat_code.specs.Codes as codes
use Rattle.machine_meaning.proofs.FromList.{PartAt, split, stmts_at, end_at}
use Rattle.machine_meaning.proofs.Frames.{FunctionStands, Lowers}
use Rattle.machine_meaning.proofs.LoweredSteps.{params_at}

get_behind : (front : List Op) (op : Op) (ops : List Op) → slice_get (front ++ op ∷ ops) (length front) ≡ Some op
get_behind [] op ops = refl
get_behind (x ∷ front) op ops = get_behind front op ops

whole_from : (front ops all : List Op) → all ≡ front ++ ops → (n : ℕ) → n ≡ length front → PartAt (λ i. slice_get all i) n ops
whole_from front [] all e n at = tt
whole_from front (op ∷ ops) all e n at = (
  ap (λ k. slice_get all k) at ∙ ap (λ xs. slice_get xs (length front)) e ∙ get_behind front op ops,
  whole_from (front ++ op ∷ []) ops all (e ∙ sym (Rattle.std.proofs.Common.append_assoc front (op ∷ []) ops)) (n + 1) (omega (arith, length-append front (op ∷ []))),
)

-- a list's own operations stand in it from 0 on
whole : (ops : List Op) → PartAt (λ i. slice_get ops i) 0 ops
whole ops = whole_from [] ops ops refl 0 refl

abbrev no_function : FunctionTree
no_function = record { name = []; params = 0; gives = false; sizes = []; body = NoStmts }

scoped_at : (program : ProgramTree) (fs : List FunctionTree) (f : ℕ) → f < length fs → AreFunctionsScoped program fs → IsFunctionScoped program (slice_index_or fs f no_function)
scoped_at program [] f lt h = absurd (omega arith)
scoped_at program (x ∷ fs) zero lt h = h.0
scoped_at program (x ∷ fs) (suc f) lt h = scoped_at program fs f (omega arith) h.1

table_at : (ss : List Signature) (tables : List (List ℕ)) (t : ℕ) → t < length tables → AllByRecursion (IsTable ss) tables → AllByRecursion (IsMember ss) (slice_index_or tables t [])
table_at ss [] t lt h = absurd (omega arith)
table_at ss (row ∷ tables) zero lt h = h.0.1
table_at ss (row ∷ tables) (suc t) lt h = table_at ss tables t (omega arith) h.1

member_at : (ss : List Signature) (row : List ℕ) (k : ℕ) → k < length row → AllByRecursion (IsMember ss) row → IsMember ss (slice_index row k)
member_at ss [] k lt h = absurd (omega arith)
member_at ss (x ∷ row) zero lt h = h.0
member_at ss (x ∷ row) (suc k) lt h = member_at ss row k (omega arith) h.1

pub scalars_length : (n : ℕ) → length (words.scalars n) ≡ n
scalars_length zero = refl
scalars_length (suc n) = ap suc (scalars_length n)

module _ (program : ProgramTree) (scoped : IsWellScoped program) where
  abbrev flat_function : ℕ → FlatFunction
  flat_function f = codes.function_at (lowered program) f

  pub function_is : (f : ℕ) → f < length program.functions → flat_function f ≡ lowered_function (function_at program f)
  function_is f lt = get_or-map lowered_function program.functions f no_function (record { params = 0; gives = false; sizes = []; ops = [] }) lt

  function_stands : (f : ℕ) → f < length program.functions → FunctionStands program (lowered program) f
  function_stands f lt =
      let tree = function_at program f in
      let t = length tree.sizes in
      let is = function_is f lt in
      let sizes : (flat_function f).sizes ≡ function_sizes tree = ap (λ (g : FlatFunction). g.sizes) is in
      let ops : (flat_function f).ops ≡ function_ops tree = ap (λ (g : FlatFunction). g.ops) is in
      let all : PartAt (operation_at (lowered program) f) 0 (function_ops tree) = subst (PartAt (operation_at (lowered program) f) 0) ops (whole (flat_function f).ops) in
      let last = stmts_size tree.body in
      let s = split (operation_at (lowered program) f) (stmts_code tree.body 0 t 0 0) (closing_code tree.gives t) 0 last (omega (arith, stmts_length tree.body 0 t 0 0)) all in
      record {
        last = last;
        body = stmts_at (operation_at (lowered program) f) t tree.body 0 last 0 0 s.0 (omega arith);
        end = end_at (operation_at (lowered program) f) t tree.gives last s.1;
        count = ap length sizes ∙ length-append tree.sizes (words.scalars (function_temporaries tree)) ∙ ap (λ n. length tree.sizes + n) (scalars_length (function_temporaries tree));
        same = λ x lt'. ap (λ ss. slice_index ss x) sizes ∙ get_or_append_left tree.sizes (words.scalars (function_temporaries tree)) 0 x lt';
        scoped = scoped_at program program.functions f lt scoped.bodies;
      }

  pub lowers : Lowers program (lowered program)
  lowers = record {
    functions = function_stands;
    tables = refl;
    members = λ t k lt lt'.
        let member = member_at (map signature_of program.functions) (slice_index_or program.tables t []) k lt' (table_at (map signature_of program.functions) program.tables t lt scoped.tables) in
        (omega (arith, member.0, length-map program.functions signature_of), sym (params_at program (slice_index (slice_index_or program.tables t []) k) member.0) ∙ member.1);
  }
