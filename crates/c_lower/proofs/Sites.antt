-- The code of a program has the sites of its tree, each once; those of a `for`'s step come after those of its body.
use Rattle.std.proofs.lemmas.Bool.Decides.{nat_tests}
use Rattle.c_lower.proofs.Common.{◌≡◌, ◌+◌, ℕ, Bool, true, false, List, [], ◌∷◌, ◌++◌, map, refl, sym, ap, subst, ◌∙◌, append_assoc, eqb, arith, Option, Some, None, IsDistinct, filter_map, flat_map, map-append, append-nil, call_site, right_sites, returned_sites, simple_sites, simples_sites, step_sites, stmt_sites, stmts_sites, functions_sites, program_sites, ExprTree, CallTree, CallFunction, CallTable, CallSpawn, CallModelled, RightTree, Computed, Called, SimpleTree, DeclareWith, SetLocal, SetGlobal, SetLocalElement, SetGlobalElement, Calling, StmtTree, StmtTrees, Do, Block, If, IfElse, While, For, Return, NoStmts, Then, FunctionTree, ProgramTree, Op, site_of, site_numbers, expr_size, expr_code, arguments_code, call_code, set_code, held_code, simple_size, simple_code, simples_size, simples_code, step_size, step_code, test_size, test_code, return_code, stmt_size, stmt_code, stmts_code, closing_code, first_temporary, lowered_function, lowered}
use Rattle.std.specs.List.Sorted.{IsPermutation}
use Rattle.std.proofs.lemmas.List.Elements.{filter_map-append}
use Rattle.std.proofs.lemmas.List.Sorted.{IsPermutation-refl, IsPermutation-trans, IsPermutation-append, IsPermutation-append_comm, IsPermutation-append_left}
use Rattle.std.proofs.lemmas.Map.Keys.{IsDistinct-IsPermutation}
use Rattle.c_tree.specs.declared.facts.Site.{Site}
use Rattle.c_lower.proofs.PlainCode.{ArePlain, expr_plain, arguments_plain}

-- the numbers of the sites of operations, and of sites of a tree
abbrev sites : List Op → List ℕ
sites ops = filter_map site_of ops

abbrev numbers : List Site → List ℕ
numbers ss = map (λ s. s.number) ss

joined : (xs ys : List Op) → sites (xs ++ ys) ≡ sites xs ++ sites ys
joined xs ys = filter_map-append site_of xs ys

-- operations without sites before and after others
after : (xs ys : List Op) → sites xs ≡ [] → sites (xs ++ ys) ≡ sites ys
after xs ys e = joined xs ys ∙ ap (λ a. a ++ sites ys) e

before : (xs ys : List Op) → sites ys ≡ [] → sites (xs ++ ys) ≡ sites xs
before xs ys e = joined xs ys ∙ ap (λ b. sites xs ++ b) e ∙ append-nil (sites xs)

none : (xs ys : List Op) → sites xs ≡ [] → sites ys ≡ [] → sites (xs ++ ys) ≡ []
none xs ys e f = after xs ys e ∙ f

all_none : (ops : List Op) → ArePlain ops → sites ops ≡ []
all_none [] plain = refl
all_none (op ∷ ops) plain = rw plain.0.0 (all_none ops plain.1)

expr_none : (e : ExprTree) (p k : ℕ) → sites (expr_code e p k) ≡ []
expr_none e p k = all_none (expr_code e p k) (expr_plain e p k)

arguments_none : (es : List ExprTree) (p k : ℕ) → sites (arguments_code es p k) ≡ []
arguments_none es p k = all_none (arguments_code es p k) (arguments_plain es p k)

call_is : (c : CallTree) (p k : ℕ) (d : Option ℕ) → sites (call_code c p k d) ≡ numbers (call_site c ∷ [])
call_is (CallFunction s f es) p k d = after (arguments_code es p k) _ (arguments_none es p k)
call_is (CallTable s t i e) p k d =
    after (expr_code i p k ++ expr_code e (p + expr_size i) (k + 1)) _ (none (expr_code i p k) _ (expr_none i p k) (expr_none e (p + expr_size i) (k + 1)))
call_is (CallSpawn s f e) p k d = after (expr_code e p k) _ (expr_none e p k)
call_is (CallModelled s m es) p k d = after (arguments_code es p k) _ (arguments_none es p k)

set_is : (v : RightTree) (p k x : ℕ) → sites (set_code v p k x) ≡ numbers (right_sites v)
set_is (Computed e) p k x = none (expr_code e p k) _ (expr_none e p k) refl
set_is (Called c) p k x = call_is c p k (Some x)

held_is : (v : RightTree) (p k : ℕ) → sites (held_code v p k) ≡ numbers (right_sites v)
held_is (Computed e) p k = expr_none e p k
held_is (Called c) p k = call_is c p k (Some k)

simple_is : (s : SimpleTree) (p t : ℕ) → sites (simple_code s p t) ≡ numbers (simple_sites s)
simple_is (DeclareWith x v) p t = set_is v p t x
simple_is (SetLocal x v) p t = set_is v p t x
simple_is (SetGlobal g v) p t = before (held_code v p t) _ refl ∙ held_is v p t
simple_is (SetLocalElement a i v) p t =
    before (expr_code i p t ++ held_code v (p + expr_size i) (t + 1)) _ refl ∙ (after (expr_code i p t) _ (expr_none i p t) ∙ held_is v (p + expr_size i) (t + 1))
simple_is (SetGlobalElement a i v) p t =
    before (expr_code i p t ++ held_code v (p + expr_size i) (t + 1)) _ refl ∙ (after (expr_code i p t) _ (expr_none i p t) ∙ held_is v (p + expr_size i) (t + 1))
simple_is (Calling c) p t = call_is c p t None
simple_is _ p t = refl

two : (xs ys : List Site) → numbers (xs ++ ys) ≡ numbers xs ++ numbers ys
two xs ys = map-append (λ (s : Site). s.number) xs ys

simples_is : (ss : List SimpleTree) (p t : ℕ) → sites (simples_code ss p t) ≡ numbers (simples_sites ss)
simples_is [] p t = refl
simples_is (s ∷ ss) p t =
    joined (simple_code s p t) (simples_code ss (p + simple_size s) t)
    ∙ (ap (λ a. a ++ sites (simples_code ss (p + simple_size s) t)) (simple_is s p t)
    ∙ (ap (λ b. numbers (simple_sites s) ++ b) (simples_is ss (p + simple_size s) t) ∙ sym (two (simple_sites s) (simples_sites ss))))

step_is : (s : Option SimpleTree) (p t : ℕ) → sites (step_code s p t) ≡ numbers (step_sites s)
step_is None p t = refl
step_is (Some s) p t = simple_is s p t

test_none : (c : Option ExprTree) (p t to : ℕ) → sites (test_code c p t to) ≡ []
test_none None p t to = refl
test_none (Some c) p t to = none (expr_code c p t) _ (expr_none c p t) refl

return_is : (v : Option RightTree) (p t : ℕ) → sites (return_code v p t) ≡ numbers (returned_sites v)
return_is None p t = refl
return_is (Some v) p t = before (held_code v p t) _ refl ∙ held_is v p t

-- ---- the same numbers in another order

same : (xs ys : List ℕ) → ys ≡ xs → IsPermutation xs ys
same xs ys e = subst (λ zs. IsPermutation xs zs) (sym e) (IsPermutation-refl xs)

ends_as : (xs ys zs : List ℕ) → zs ≡ ys → IsPermutation xs ys → IsPermutation xs zs
ends_as xs ys zs e h = subst (λ us. IsPermutation xs us) (sym e) h

begins_as : (xs ys zs : List ℕ) → zs ≡ xs → IsPermutation xs ys → IsPermutation zs ys
begins_as xs ys zs e h = subst (λ us. IsPermutation us ys) (sym e) h

-- of the start, the step and the body of a `for` the step's come last
step_last : (init step body code : List ℕ) → IsPermutation body code → IsPermutation (init ++ (step ++ body)) ((init ++ code) ++ step)
step_last init step body code h =
    ends_as (init ++ (step ++ body)) (init ++ (code ++ step)) ((init ++ code) ++ step) (append_assoc init code step)
    (IsPermutation-append init init (step ++ body) (code ++ step) (IsPermutation-refl init)
    (IsPermutation-trans (step ++ body) (body ++ step) (code ++ step) (IsPermutation-append_comm step body) (IsPermutation-append_left step body code h)))

mutual
  stmt_permutes : (s : StmtTree) (p t leave skip : ℕ) → IsPermutation (numbers (stmt_sites s)) (sites (stmt_code s p t leave skip))
  stmt_permutes (Do s) p t leave skip = same _ _ (simple_is s p t)
  stmt_permutes (Block ss) p t leave skip = stmts_permute ss p t leave skip
  stmt_permutes (If c s) p t leave skip =
      let first = p + expr_size c + 1 in
      ends_as (numbers (stmt_sites s)) (sites (stmt_code s first t leave skip)) _
      (after (expr_code c p t ++ (Op.JumpZero t (first + stmt_size s) ∷ [])) (stmt_code s first t leave skip) (none (expr_code c p t) _ (expr_none c p t) refl))
      (stmt_permutes s first t leave skip)
  stmt_permutes (IfElse c s r) p t leave skip =
      let first = p + expr_size c + 1 in
      let second = first + stmt_size s + 1 in
      let test = expr_code c p t ++ (Op.JumpZero t second ∷ []) in
      let left = test ++ stmt_code s first t leave skip in
      let left_is : sites (left ++ (Op.Jump (second + stmt_size r) ∷ [])) ≡ sites (stmt_code s first t leave skip) =
      before left _ refl ∙ after test (stmt_code s first t leave skip) (none (expr_code c p t) _ (expr_none c p t) refl) in
      begins_as (numbers (stmt_sites s) ++ numbers (stmt_sites r)) _ (numbers (stmt_sites s ++ stmt_sites r)) (two (stmt_sites s) (stmt_sites r))
      (ends_as (numbers (stmt_sites s) ++ numbers (stmt_sites r)) (sites (stmt_code s first t leave skip) ++ sites (stmt_code r second t leave skip)) _
      (joined (left ++ (Op.Jump (second + stmt_size r) ∷ [])) (stmt_code r second t leave skip) ∙ ap (λ a. a ++ sites (stmt_code r second t leave skip)) left_is)
      (IsPermutation-append (numbers (stmt_sites s)) (sites (stmt_code s first t leave skip)) (numbers (stmt_sites r)) (sites (stmt_code r second t leave skip)) (stmt_permutes s first t leave skip) (stmt_permutes r second t leave skip)))
  stmt_permutes (While c s) p t leave skip =
      let body = p + expr_size c + 1 in
      let end = body + stmt_size s + 1 in
      let test = expr_code c p t ++ (Op.JumpZero t end ∷ []) in
      ends_as (numbers (stmt_sites s)) (sites (stmt_code s body t end p)) _
      (before (test ++ stmt_code s body t end p) _ refl ∙ after test (stmt_code s body t end p) (none (expr_code c p t) _ (expr_none c p t) refl))
      (stmt_permutes s body t end p)
  stmt_permutes (For init c step s) p t leave skip =
      let turn = p + simples_size init in
      let body = turn + test_size c in
      let next = body + stmt_size s in
      let end = next + step_size step + 1 in
      let start = simples_code init p t ++ test_code c turn t end in
      let inside = stmt_code s body t end next in
      let start_is : sites start ≡ numbers (simples_sites init) = before (simples_code init p t) _ (test_none c turn t end) ∙ simples_is init p t in
      let code_is : sites (start ++ inside ++ step_code step next t ++ (Op.Jump turn ∷ [])) ≡ (numbers (simples_sites init) ++ sites inside) ++ numbers (step_sites step) =
      before (start ++ inside ++ step_code step next t) _ refl
      ∙ (joined (start ++ inside) (step_code step next t)
      ∙ (ap (λ b. sites (start ++ inside) ++ b) (step_is step next t)
      ∙ (ap (λ a. a ++ numbers (step_sites step)) (joined start inside) ∙ ap (λ a. (a ++ sites inside) ++ numbers (step_sites step)) start_is))) in
      let tree_is : numbers (simples_sites init ++ (step_sites step ++ stmt_sites s)) ≡ numbers (simples_sites init) ++ (numbers (step_sites step) ++ numbers (stmt_sites s)) =
      two (simples_sites init) (step_sites step ++ stmt_sites s) ∙ ap (λ b. numbers (simples_sites init) ++ b) (two (step_sites step) (stmt_sites s)) in
      begins_as _ _ (numbers (simples_sites init ++ (step_sites step ++ stmt_sites s))) tree_is
      (ends_as (numbers (simples_sites init) ++ (numbers (step_sites step) ++ numbers (stmt_sites s))) ((numbers (simples_sites init) ++ sites inside) ++ numbers (step_sites step)) _ code_is
      (step_last (numbers (simples_sites init)) (numbers (step_sites step)) (numbers (stmt_sites s)) (sites inside) (stmt_permutes s body t end next)))
  stmt_permutes (Return v) p t leave skip = same _ _ (return_is v p t)
  stmt_permutes _ p t leave skip = IsPermutation-refl []

  stmts_permute : (ss : StmtTrees) (p t leave skip : ℕ) → IsPermutation (numbers (stmts_sites ss)) (sites (stmts_code ss p t leave skip))
  stmts_permute NoStmts p t leave skip = IsPermutation-refl []
  stmts_permute (Then s ss) p t leave skip =
      let next = p + stmt_size s in
      begins_as (numbers (stmt_sites s) ++ numbers (stmts_sites ss)) _ (numbers (stmt_sites s ++ stmts_sites ss)) (two (stmt_sites s) (stmts_sites ss))
      (ends_as (numbers (stmt_sites s) ++ numbers (stmts_sites ss)) (sites (stmt_code s p t leave skip) ++ sites (stmts_code ss next t leave skip)) _
      (joined (stmt_code s p t leave skip) (stmts_code ss next t leave skip))
      (IsPermutation-append (numbers (stmt_sites s)) (sites (stmt_code s p t leave skip)) (numbers (stmts_sites ss)) (sites (stmts_code ss next t leave skip)) (stmt_permutes s p t leave skip) (stmts_permute ss next t leave skip)))

closing_none : (gives : Bool) (t : ℕ) → sites (closing_code gives t) ≡ []
closing_none true t = refl
closing_none false t = refl

functions_permute : (fs : List FunctionTree) → IsPermutation (numbers (functions_sites fs)) (flat_map (λ f. filter_map site_of f.ops) (map lowered_function fs))
functions_permute [] = IsPermutation-refl []
functions_permute (f ∷ fs) =
    let t = first_temporary f in
    let rest = flat_map (λ g. filter_map site_of g.ops) (map lowered_function fs) in
    begins_as (numbers (stmts_sites f.body) ++ numbers (functions_sites fs)) _ (numbers (stmts_sites f.body ++ functions_sites fs)) (two (stmts_sites f.body) (functions_sites fs))
    (ends_as (numbers (stmts_sites f.body) ++ numbers (functions_sites fs)) (sites (stmts_code f.body 0 t 0 0) ++ rest) _
    (ap (λ a. a ++ rest) (before (stmts_code f.body 0 t 0 0) (closing_code f.gives t) (closing_none f.gives t)))
    (IsPermutation-append (numbers (stmts_sites f.body)) (sites (stmts_code f.body 0 t 0 0)) (numbers (functions_sites fs)) rest (stmts_permute f.body 0 t 0 0) (functions_permute fs)))

eqb-flips : (x y : ℕ) → eqb x y ≡ eqb y x
eqb-flips x y = grind (arith, nat_tests)

-- the sites of a program's code are those of its tree
pub program_permutes : (p : ProgramTree) → IsPermutation (numbers (program_sites p)) (site_numbers (lowered p))
program_permutes p = functions_permute p.functions

-- where no two calls of the tree have one number, no two of the code do
pub sites_distinct : (p : ProgramTree) → IsDistinct eqb (map (λ s. s.number) (program_sites p)) → IsDistinct eqb (site_numbers (lowered p))
sites_distinct p distinct = IsDistinct-IsPermutation eqb eqb-flips (numbers (program_sites p)) (site_numbers (lowered p)) (program_permutes p) distinct
