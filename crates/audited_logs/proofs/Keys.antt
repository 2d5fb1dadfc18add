-- A key has one to eight sites, each of which is a word.
use Rattle.audited_logs.proofs.Common.{◌≡◌, ℕ, zero, suc, ◌^◌, ◌<◌, ◌≤◌, false, List, [], ◌∷◌, ◌++◌, length, map, take, Option, Some, None, refl, sym, ap, subst, arith, get_or, AllByRecursion, All-from_recursion, All-contains, RightTree, Computed, Called, SimpleTree, DeclareWith, SetLocal, SetGlobal, SetLocalElement, SetGlobalElement, Calling, StmtTree, StmtTrees, Do, Block, If, IfElse, While, For, Return, NoStmts, Then, FunctionTree, ProgramTree, IsWellScoped, with_names, scope_after, scope_after_all, Waiting, WaitingFrame, function_at, key_of, FitsKey, All-append}
use Rattle.c_tree.specs.TextOrder.{call_site, right_sites, returned_sites, simple_sites, simples_sites, step_sites, stmt_sites, stmts_sites, functions_sites, program_sites}
use Rattle.c_tree.specs.TextOrder.{simple_names}
use Rattle.c_tree.specs.declared.facts.Site.{Site}
use Rattle.c_mean.specs.Sites.{Target, ToLocal, ToGlobal, ToCaller, ToLocalElement, ToGlobalElement, CallInText, right_calls, simple_calls, simples_calls, step_calls, returned_calls, stmt_calls, stmts_calls, function_calls, WaitsInText}
use Rattle.c_mean.specs.ToDo.{Item, Simply, Back, WhileLoop, ForLoop, step_item, all_before, turn_before}
use Rattle.log_laws.proofs.RestLemmas.{all-left}

-- ---- lists

all_right : {X : Type 0} (P : X → Type 0) (xs ys : List X) → AllByRecursion P (xs ++ ys) → AllByRecursion P ys
all_right P [] ys h = h
all_right P (x ∷ xs) ys h = all_right P xs ys h.1

-- ---- the calls of a text have sites of the text

module _ (P : ℕ → Type 0) where
  abbrev HasSite : Site → Type 0
  HasSite site = P site.number

  abbrev IsSited : CallInText → Type 0
  IsSited call = P (call_site call.call).number

  in_right : (v : RightTree) (target : Target) (scope : List ℕ) (rest : List Item) → AllByRecursion HasSite (right_sites v) → AllByRecursion IsSited (right_calls v target scope rest)
  in_right (Computed e) target scope rest h = tt
  in_right (Called call) target scope rest h = h

  in_simple : (s : SimpleTree) (scope : List ℕ) (rest : List Item) → AllByRecursion HasSite (simple_sites s) → AllByRecursion IsSited (simple_calls s scope rest)
  in_simple (DeclareWith x v) scope rest h = in_right v (ToLocal x) scope rest h
  in_simple (SetLocal x v) scope rest h = in_right v (ToLocal x) scope rest h
  in_simple (SetGlobal g v) scope rest h = in_right v (ToGlobal g) scope rest h
  in_simple (SetLocalElement a i v) scope rest h = in_right v (ToLocalElement a) scope rest h
  in_simple (SetGlobalElement a i v) scope rest h = in_right v (ToGlobalElement a) scope rest h
  in_simple (Calling call) scope rest h = h
  in_simple _ scope rest h = tt

  in_simples : (ss : List SimpleTree) (scope : List ℕ) (rest : List Item) → AllByRecursion HasSite (simples_sites ss) → AllByRecursion IsSited (simples_calls ss scope rest)
  in_simples [] scope rest h = tt
  in_simples (s ∷ ss) scope rest h =
      All-append IsSited (simple_calls s scope (map Simply ss ++ rest)) (simples_calls ss (with_names scope (simple_names s)) rest)
      (in_simple s scope (map Simply ss ++ rest) (all-left HasSite (simple_sites s) (simples_sites ss) h))
      (in_simples ss (with_names scope (simple_names s)) rest (all_right HasSite (simple_sites s) (simples_sites ss) h))

  in_step : (step : Option SimpleTree) (scope : List ℕ) (rest : List Item) → AllByRecursion HasSite (step_sites step) → AllByRecursion IsSited (step_calls step scope rest)
  in_step None scope rest h = tt
  in_step (Some s) scope rest h = in_simple s scope rest h

  in_returned : (v : Option RightTree) (scope : List ℕ) (rest : List Item) → AllByRecursion HasSite (returned_sites v) → AllByRecursion IsSited (returned_calls v scope rest)
  in_returned None scope rest h = tt
  in_returned (Some v) scope rest h = in_right v ToCaller scope rest h

  mutual
    in_stmt : (s : StmtTree) (scope : List ℕ) (rest : List Item) → AllByRecursion HasSite (stmt_sites s) → AllByRecursion IsSited (stmt_calls s scope rest)
    in_stmt (Do s) scope rest h = in_simple s scope rest h
    in_stmt (Block ss) scope rest h = in_stmts ss scope rest h
    in_stmt (If c s) scope rest h = in_stmt s scope rest h
    in_stmt (IfElse c s r) scope rest h =
        All-append IsSited (stmt_calls s scope rest) (stmt_calls r scope rest)
        (in_stmt s scope rest (all-left HasSite (stmt_sites s) (stmt_sites r) h)) (in_stmt r scope rest (all_right HasSite (stmt_sites s) (stmt_sites r) h))
    in_stmt (While c s) scope rest h = in_stmt s scope (Back (WhileLoop c s) ∷ rest) h
    in_stmt (For init c step s) scope rest h =
        let later = all_right HasSite (simples_sites init) (step_sites step ++ stmt_sites s) h in
        let inner = scope_after_all scope init in
        All-append IsSited (simples_calls init scope (turn_before (ForLoop c step s) rest)) (step_calls step inner (Back (ForLoop c step s) ∷ rest) ++ stmt_calls s inner (step_item step ++ Back (ForLoop c step s) ∷ rest))
        (in_simples init scope (turn_before (ForLoop c step s) rest) (all-left HasSite (simples_sites init) (step_sites step ++ stmt_sites s) h))
        (All-append IsSited (step_calls step inner (Back (ForLoop c step s) ∷ rest)) (stmt_calls s inner (step_item step ++ Back (ForLoop c step s) ∷ rest))
        (in_step step inner (Back (ForLoop c step s) ∷ rest) (all-left HasSite (step_sites step) (stmt_sites s) later))
        (in_stmt s inner (step_item step ++ Back (ForLoop c step s) ∷ rest) (all_right HasSite (step_sites step) (stmt_sites s) later)))
    in_stmt (Return v) scope rest h = in_returned v scope rest h
    in_stmt _ scope rest h = tt

    in_stmts : (ss : StmtTrees) (scope : List ℕ) (rest : List Item) → AllByRecursion HasSite (stmts_sites ss) → AllByRecursion IsSited (stmts_calls ss scope rest)
    in_stmts NoStmts scope rest h = tt
    in_stmts (Then s ss) scope rest h =
        All-append IsSited (stmt_calls s scope (all_before ss rest)) (stmts_calls ss (scope_after scope s) rest)
        (in_stmt s scope (all_before ss rest) (all-left HasSite (stmt_sites s) (stmts_sites ss) h)) (in_stmts ss (scope_after scope s) rest (all_right HasSite (stmt_sites s) (stmts_sites ss) h))

  -- those of a function of the program, or of none
  body_at : (fs : List FunctionTree) (f : ℕ) (none : FunctionTree) → AllByRecursion HasSite (functions_sites fs) → AllByRecursion HasSite (stmts_sites none.body) → AllByRecursion HasSite (stmts_sites (get_or fs f none).body)
  body_at [] f none h k = k
  body_at (g ∷ fs) zero none h k = all-left HasSite (stmts_sites g.body) (functions_sites fs) h
  body_at (g ∷ fs) (suc f) none h k = body_at fs f none (all_right HasSite (stmts_sites g.body) (functions_sites fs) h) k

  in_function : (p : ProgramTree) (f : ℕ) → AllByRecursion HasSite (program_sites p) → AllByRecursion IsSited (function_calls (function_at p f))
  in_function p f h =
      let g = function_at p f in
      in_stmts g.body (Rattle.c_tree.specs.Sizes.below g.params) [] (body_at p.functions f (record { name = []; params = 0; gives = false; sizes = []; body = NoStmts }) h tt)

  -- and so of a frame that waits in the text
  waits_sited : (p : ProgramTree) (waiting : WaitingFrame) → AllByRecursion HasSite (program_sites p) → WaitsInText p waiting → P waiting.site
  waits_sited p waiting h is =
      subst P (sym is.1.site) (All-contains IsSited (function_calls (function_at p waiting.frame.function)) is.0 (All-from_recursion IsSited (function_calls (function_at p waiting.frame.function)) (in_function p waiting.frame.function h)) is.1.in_text)

-- ---- keys

numbers_small : (sites : List Site) (most : ℕ) → AllByRecursion (λ n. n < most) (map (λ (s : Site). s.number) sites) → AllByRecursion (λ (s : Site). s.number < most) sites
numbers_small [] most h = tt
numbers_small (s ∷ sites) most h = (h.0, numbers_small sites most h.1)

weaker : (sites : List Site) (most : ℕ) → most ≤ 65535 → AllByRecursion (λ (s : Site). s.number < most) sites → AllByRecursion (λ (s : Site). s.number < 2 ^ 32) sites
weaker [] most few h = tt
weaker (s ∷ sites) most few h = (let small = h.0 in omega (arith, small, few), weaker sites most few h.1)

length_of : (sites : List Site) → length (map (λ (s : Site). s.number) sites) ≡ length sites
length_of [] = refl
length_of (s ∷ sites) = ap suc (length_of sites)

sites_small : (p : ProgramTree) → IsWellScoped p → AllByRecursion (λ (s : Site). s.number < 2 ^ 32) (program_sites p)
sites_small p scoped =
    let few = scoped.sites in
    weaker (program_sites p) (length (map (λ (s : Site). s.number) (program_sites p))) (let same = length_of (program_sites p) in omega (arith, same, few))
    (numbers_small (program_sites p) (length (map (λ (s : Site). s.number) (program_sites p))) scoped.site_numbers.1)

below_small : (p : ProgramTree) → IsWellScoped p → (waitings : List WaitingFrame) → AllByRecursion (WaitsInText p) waitings → (n : ℕ) →
    AllByRecursion (λ site. site < 2 ^ 32) (take n (map (λ (w : WaitingFrame). w.site) waitings)) × (length (take n (map (λ (w : WaitingFrame). w.site) waitings)) ≤ n)
below_small p scoped [] all zero = (tt, omega arith)
below_small p scoped [] all (suc n) = (tt, omega arith)
below_small p scoped (w ∷ waitings) all zero = (tt, omega arith)
below_small p scoped (w ∷ waitings) all (suc n) =
    let rest = below_small p scoped waitings all.1 n in
    let short = rest.1 in
    ((waits_sited (λ site. site < 2 ^ 32) p w (sites_small p scoped) all.0, rest.0), omega (arith, short))

pub key_fits : (p : ProgramTree) → IsWellScoped p → (waiting : Waiting) → AllByRecursion (WaitsInText p) (waiting.front ∷ waiting.below) → FitsKey (key_of waiting)
key_fits p scoped waiting all =
    let rest = below_small p scoped waiting.below all.1 7 in
    let short = rest.1 in
    (omega arith, omega (arith, short), (waits_sited (λ site. site < 2 ^ 32) p waiting.front (sites_small p scoped) all.0, rest.0))
