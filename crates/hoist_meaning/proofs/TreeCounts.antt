-- A tree in which each call is whole has as many calls as the program that it is resolved to.
use Rattle.hoist_meaning.proofs.Common.{ℕ, ◌≡◌, ◌+◌, refl, sym, ap, ◌∙◌, List, [], ◌∷◌, ◌++◌, length, length-append, Option, Some, None, arith, option_map, RawExprTree, RawElement, RawUnary, RawParenthesized, RawBinary, RawLogicalAnd, RawLogicalOr, RawConditional, RawCall, RawTableCall, RawSimpleTree, RawDeclareWith, RawSet, RawSetElement, RawCalling, RawTableCalling, RawStmtTree, RawStmtTrees, RawDo, RawBlock, RawIf, RawIfElse, RawWhile, RawFor, RawReturn, NoRawStmts, RawThen, RawItemTree, RawTableItem, RawPrototypeItem, RawFunctionItem, ExprTree, RightTree, FunctionTree, right_sites, returned_sites, simple_sites, simples_sites, step_sites, stmt_sites, stmts_sites, functions_sites, program_sites, IsValueWhole, IsSimpleWhole, AreSimplesWhole, IsConditionWhole, IsStepWhole, IsReturnWhole, IsStmtWhole, AreStmtsWhole, IsItemWhole, AreCallsWhole, Variable, Binding, find, variable_of, expr_of, right_of, Spot, set_scalar, set_element, simple_of, simple_after, simples_of, simples_after, inside, left, step_after, returned_of, stmt_of, stmt_after, stmts_of, Sofar, definitions, at_start, body_spot, function_tree_of, item_after, items_after, program_of, is_call, Used, expr_places, exprs_places, optional_places, simple_places, simples_places, step_places, stmt_places, stmts_places, names_places, parameters_places, item_places, items_places, site_numbers, no_declared, no_used, no_parameters, ranks_length}
use Rattle.hoist_meaning.proofs.CallCounts.{no_places, none_of_them}

both : {A B : Type 0} (ks js : List A) (ps qs : List B) → length ks ≡ length ps → length js ≡ length qs → length (ks ++ js) ≡ length (ps ++ qs)
both ks js ps qs e f = let a = length-append ks js in let b = length-append ps qs in omega (arith, a, b, e, f)

neither : {xs ys : List ℕ} → xs ≡ [] → ys ≡ [] → xs ++ ys ≡ []
neither {xs = a} {ys = b} e f = ap (λ x. x ++ b) e ∙ f

-- ---- where no call stands

condition_none : (c : Option RawExprTree) → IsConditionWhole c → optional_places is_call c ≡ []
condition_none None h = refl
condition_none (Some e) h = no_places e h

-- ---- right sides

none_counted : (ps : List ℕ) → ps ≡ [] → 0 ≡ length ps
none_counted ps e = sym (ap length e)

one_counted : (at : ℕ) (ps : List ℕ) → ps ≡ [] → 1 ≡ length (at ∷ ps)
one_counted at ps e = sym (ap (λ x. length (at ∷ x)) e)

value_count : (names : List Binding) (k : ℕ) (v : RawExprTree) → IsValueWhole v → length (right_sites (right_of names k v)) ≡ length (expr_places is_call v)
value_count names k (RawElement n i) h = none_counted (expr_places is_call (RawElement n i)) (no_places (RawElement n i) h)
value_count names k (RawUnary op e) h = none_counted (expr_places is_call (RawUnary op e)) (no_places (RawUnary op e) h)
value_count names k (RawParenthesized e) h = none_counted (expr_places is_call (RawParenthesized e)) (no_places (RawParenthesized e) h)
value_count names k (RawBinary op l r) h = none_counted (expr_places is_call (RawBinary op l r)) (no_places (RawBinary op l r) h)
value_count names k (RawLogicalAnd l r) h = none_counted (expr_places is_call (RawLogicalAnd l r)) (no_places (RawLogicalAnd l r) h)
value_count names k (RawLogicalOr l r) h = none_counted (expr_places is_call (RawLogicalOr l r)) (no_places (RawLogicalOr l r) h)
value_count names k (RawConditional c a b) h = none_counted (expr_places is_call (RawConditional c a b)) (no_places (RawConditional c a b) h)
value_count names k (RawCall n es) h = one_counted n.at (exprs_places is_call es) (none_of_them es h)
value_count names k (RawTableCall n i e) h = one_counted n.at (expr_places is_call i ++ expr_places is_call e) (neither (no_places i h.0) (no_places e h.1))
value_count names k _ h = refl

-- ---- declarations, assignments and calls

set_scalar_sites : (x : Variable) (v : RightTree) → simple_sites (set_scalar x v) ≡ right_sites v
set_scalar_sites (Variable.Local x) v = refl
set_scalar_sites (Variable.Global x) v = refl

set_element_sites : (x : Variable) (i : ExprTree) (v : RightTree) → simple_sites (set_element x i v) ≡ right_sites v
set_element_sites (Variable.Local x) i v = refl
set_element_sites (Variable.Global x) i v = refl

-- a part before, in which no call stands
after_none : {before : List ℕ} (ps : List ℕ) → before ≡ [] → length ps ≡ length (before ++ ps)
after_none ps e = sym (ap (λ x. length (x ++ ps)) e)

simple_count : (s : Spot) (p : RawSimpleTree) → IsSimpleWhole p → length (simple_sites (simple_of s p)) ≡ length (simple_places is_call p)
simple_count s (RawDeclareWith n v) h = value_count s.names s.site v h
simple_count s (RawSet n v) h = ap length (set_scalar_sites (variable_of (find n.text s.names)) (right_of s.names s.site v)) ∙ value_count s.names s.site v h
simple_count s (RawSetElement n i v) h =
    ap length (set_element_sites (variable_of (find n.text s.names)) (expr_of s.names i) (right_of s.names s.site v))
    ∙ (value_count s.names s.site v h.1 ∙ after_none (expr_places is_call v) (no_places i h.0))
simple_count s (RawCalling n es) h = one_counted n.at (exprs_places is_call es) (none_of_them es h)
simple_count s (RawTableCalling n i e) h = one_counted n.at (expr_places is_call i ++ expr_places is_call e) (neither (no_places i h.0) (no_places e h.1))
simple_count s _ h = refl

simples_count : (s : Spot) (ps : List RawSimpleTree) → AreSimplesWhole ps → length (simples_sites (simples_of s ps)) ≡ length (simples_places is_call ps)
simples_count s [] h = refl
simples_count s (p ∷ ps) h =
    both (simple_sites (simple_of s p)) (simples_sites (simples_of (simple_after s p) ps)) (simple_places is_call p) (simples_places is_call ps) (simple_count s p h.0) (simples_count (simple_after s p) ps h.1)

step_count : (s : Spot) (p : Option RawSimpleTree) → IsStepWhole p → length (step_sites (option_map (simple_of s) p)) ≡ length (step_places is_call p)
step_count s None h = refl
step_count s (Some p) h = simple_count s p h

returned_count : (s : Spot) (v : Option RawExprTree) → IsReturnWhole v → length (returned_sites (returned_of s v)) ≡ length (optional_places is_call v)
returned_count s None h = refl
returned_count s (Some v) h = value_count s.names s.site v h

-- ---- statements

mutual
  stmt_count : (s : Spot) (p : RawStmtTree) → IsStmtWhole p → length (stmt_sites (stmt_of s p)) ≡ length (stmt_places is_call p)
  stmt_count s (RawDo p) h = simple_count s p h
  stmt_count s (RawBlock ps) h = stmts_count (inside s) ps h
  stmt_count s (RawIf c p) h = stmt_count (inside s) p h.1 ∙ after_none (stmt_places is_call p) (no_places c h.0)
  stmt_count s (RawIfElse c p r) h =
      let m = inside (left s (stmt_after (inside s) p)) in
      both (stmt_sites (stmt_of (inside s) p)) (stmt_sites (stmt_of m r)) (stmt_places is_call p) (stmt_places is_call r) (stmt_count (inside s) p h.1) (stmt_count m r h.2)
      ∙ after_none (stmt_places is_call p ++ stmt_places is_call r) (no_places c h.0)
  stmt_count s (RawWhile c p) h = stmt_count (inside s) p h.1 ∙ after_none (stmt_places is_call p) (no_places c h.0)
  stmt_count s (RawFor init c step p) h =
      let b = simples_after (inside s) init in
      let d = inside (step_after b step) in
      let rest = both (step_sites (option_map (simple_of b) step)) (stmt_sites (stmt_of d p)) (step_places is_call step) (stmt_places is_call p) (step_count b step h.2) (stmt_count d p h.3) in
      both (simples_sites (simples_of (inside s) init)) (step_sites (option_map (simple_of b) step) ++ stmt_sites (stmt_of d p)) (simples_places is_call init) (optional_places is_call c ++ (step_places is_call step ++ stmt_places is_call p))
      (simples_count (inside s) init h.0) (rest ∙ after_none (step_places is_call step ++ stmt_places is_call p) (condition_none c h.1))
  stmt_count s (RawReturn at v) h = returned_count s v h
  stmt_count s _ h = refl

  stmts_count : (s : Spot) (ps : RawStmtTrees) → AreStmtsWhole ps → length (stmts_sites (stmts_of s ps)) ≡ length (stmts_places is_call ps)
  stmts_count s NoRawStmts h = refl
  stmts_count s (RawThen p ps) h =
      both (stmt_sites (stmt_of s p)) (stmts_sites (stmts_of (stmt_after s p) ps)) (stmt_places is_call p) (stmts_places is_call ps) (stmt_count s p h.0) (stmts_count (stmt_after s p) ps h.1)

-- ---- items

one_more : (fs : List FunctionTree) (f : FunctionTree) → length (functions_sites (fs ++ f ∷ [])) ≡ length (functions_sites fs) + length (stmts_sites f.body)
one_more [] f = let l = length-append (stmts_sites f.body) [] in omega (arith, l)
one_more (g ∷ fs) f =
    let rest = one_more fs f in
    let all = length-append (stmts_sites g.body) (functions_sites (fs ++ f ∷ [])) in
    let fewer = length-append (stmts_sites g.body) (functions_sites fs) in
    omega (arith, rest, all, fewer)

-- with no call more
same_count : (ps : List ℕ) (n : ℕ) → ps ≡ [] → n ≡ n + length ps
same_count ps n e = let l = ap length e in omega (arith, l)

item_count : (defs : List Binding) (w : Sofar) (i : RawItemTree) → IsItemWhole i → length (functions_sites (item_after defs w i).functions) ≡ length (functions_sites w.functions) + length (item_places is_call i)
item_count defs w (RawTableItem n size members) h = same_count (names_places is_call Used members) (length (functions_sites w.functions)) (no_used members)
item_count defs w (RawPrototypeItem gives n params) h = same_count (parameters_places is_call params) (length (functions_sites w.functions)) (no_parameters params)
item_count defs w (RawFunctionItem gives n params body) h =
    let b = body_spot defs w.spot gives n params in
    let all = one_more w.functions (function_tree_of b gives n params body) in
    let here = stmts_count b body h in
    let none = after_none (stmts_places is_call body) (no_declared params) in
    omega (arith, all, here, none)
item_count defs w _ h = same_count [] (length (functions_sites w.functions)) refl

items_count : (defs : List Binding) (w : Sofar) (is : List RawItemTree) → AreCallsWhole is → length (functions_sites (items_after defs w is).functions) ≡ length (functions_sites w.functions) + length (items_places is_call is)
items_count defs w [] h = same_count [] (length (functions_sites w.functions)) refl
items_count defs w (i ∷ is) h =
    let one = item_count defs w i h.0 in
    let rest = items_count defs (item_after defs w i) is h.1 in
    let split = length-append (item_places is_call i) (items_places is_call is) in
    omega (arith, one, rest, split)

-- each call of the program has one number
pub each_call : (is : List RawItemTree) → AreCallsWhole is → length (site_numbers is) ≡ length (program_sites (program_of is))
each_call is h =
    let many = ranks_length [] (items_places is_call is) in
    let all = items_count (definitions is) at_start is h in
    omega (arith, many, all)
