-- What breaks no rule takes no more temporaries with numbers for names than it did as it was read.
use Rattle.scope_rules.proofs.Common.{ℕ, ◌≡◌, ◌≤◌, ◌+◌, refl, sym, subst, Bool, true, false, not, List, [], ◌∷◌, ◌++◌, length, max, Option, Some, None, arith, ◌||◌, ◌&&◌, if◌then◌else◌, option_map, bytes_eq, parameters_of, ModelledCall, NameTree, RawExprTree, RawExprTrees, RawNumber, RawName, RawElement, RawUnary, RawParenthesized, RawBinary, RawLogicalAnd, RawLogicalOr, RawConditional, RawCall, RawTableCall, NoExprs, And, RawSimpleTree, RawDeclareScalar, RawDeclareArray, RawDeclareWith, RawSet, RawSetElement, RawCalling, RawTableCalling, RawStmtTree, RawStmtTrees, RawDo, RawEmpty, RawBlock, RawIf, RawIfElse, RawWhile, RawFor, RawBreak, RawContinue, RawReturn, NoRawStmts, RawThen, raw_temporaries, raw_arguments_temporaries, raw_simple_temporaries, raw_simples_temporaries, raw_optional_temporaries, raw_step_temporaries, raw_stmt_temporaries, raw_stmts_temporaries, ExprTree, RightTree, expr_temporaries, arguments_temporaries, call_temporaries, right_temporaries, held_temporaries, simple_temporaries, simples_temporaries, condition_temporaries, step_temporaries, returned_temporaries, stmt_temporaries, stmts_temporaries, Rule, Meaning, Found, Variable, Binding, find, is_fixed, bound, broken, is_callable, is_void, takes, is_wrong_count, variable_of, callee_in, callee_of, scalar_faults, array_faults, expr_faults, listed, scalar_value, element_value, expr_of, exprs_of, call_name_faults, arguments_faults, call_faults, right_faults, call_by, call_of, right_of, spawn_of, Spot, declare_faults, simple_faults, set_scalar, set_element, simple_of, simple_after, simples_faults, simples_of, simples_after, inside, left, step_kind, step_faults, step_after, return_faults, returned_of, stmt_after, stmt_faults, stmts_faults, stmt_of, stmts_of}
use Rattle.scope_rules.proofs.NoFaults.{both_none, four_none, not_broken}
use Rattle.scope_rules.proofs.ScopedCalls.{Known, known_call, right_count}

-- every function in scope has at most six parameters
abbrev pub IsSix : Meaning → Type 0
IsSix (Meaning.Function f gives params defined) = params ≤ 6
IsSix _ = Unit {0}

abbrev pub AreSix : List Binding → Type 0
AreSix [] = Unit {0}
AreSix (b ∷ bs) = IsSix b.meaning × AreSix bs

find_six : (t : List ℕ) (names : List Binding) (f : Found) → AreSix names → find t names ≡ Some f → IsSix f.meaning
find_six t [] f h e = cc
find_six t (b ∷ bs) f h e = at_head (bytes_eq b.text t) e (find_six t bs f h.1)
  where
    at_head : (v : Bool) → (if v then Some (record { position = length bs; meaning = b.meaning }) else find t bs) ≡ Some f → (find t bs ≡ Some f → IsSix f.meaning) → IsSix f.meaning
    at_head true k next = let same : ◌≡◌ {A = Found} (record { position = length bs; meaning = b.meaning }) f = cc in subst (λ (x : Found). IsSix x.meaning) same h.0
    at_head false k next = next k

one_more_six : (names : List Binding) (v : Bool) (b : Binding) → IsSix b.meaning → AreSix names → AreSix (if v then names else b ∷ names)
one_more_six names true b h k = k
one_more_six names false b h k = (h, k)

pub bound_six : (names : List Binding) (t : List ℕ) (m : Meaning) → IsSix m → AreSix names → AreSix (bound names t m)
bound_six names t m h k = one_more_six names (is_fixed (find t names)) (record { text = t; meaning = m }) h k

simple_six : (s : Spot) (p : RawSimpleTree) → AreSix s.names → AreSix (simple_after s p).names
simple_six s (RawDeclareScalar n) k = bound_six s.names n.text _ tt k
simple_six s (RawDeclareArray n size) k = bound_six s.names n.text _ tt k
simple_six s (RawDeclareWith n v) k = bound_six s.names n.text _ tt k
simple_six s _ k = k

simples_six : (s : Spot) (ps : List RawSimpleTree) → AreSix s.names → AreSix (simples_after s ps).names
simples_six s [] k = k
simples_six s (p ∷ ps) k = simples_six (simple_after s p) ps (simple_six s p k)

step_six : (s : Spot) (p : Option RawSimpleTree) → AreSix s.names → AreSix (step_after s p).names
step_six s None k = k
step_six s (Some p) k = simple_six s p k

stmt_six : (s : Spot) (p : RawStmtTree) → AreSix s.names → AreSix (stmt_after s p).names
stmt_six s (RawDo p) k = simple_six s p k
stmt_six s RawEmpty k = k
stmt_six s (RawBlock ps) k = k
stmt_six s (RawIf c p) k = k
stmt_six s (RawIfElse c p r) k = k
stmt_six s (RawWhile c p) k = k
stmt_six s (RawFor init c step p) k = k
stmt_six s (RawBreak at) k = k
stmt_six s (RawContinue at) k = k
stmt_six s (RawReturn at None) k = k
stmt_six s (RawReturn at (Some v)) k = k

scalar_one : (v : Variable) → expr_temporaries (scalar_value v) ≡ 1
scalar_one (Variable.Local x) = refl
scalar_one (Variable.Global g) = refl

element_same : (v : Variable) (i : ExprTree) → expr_temporaries (element_value v i) ≡ expr_temporaries i
element_same (Variable.Local x) i = refl
element_same (Variable.Global g) i = refl

larger_both : (a b x y : ℕ) → a ≤ x → b ≤ y → max a b ≤ max x y
larger_both a b x y h k = omega arith

expr_fewer : (names : List Binding) (e : RawExprTree) → expr_temporaries (expr_of names e) ≤ raw_temporaries e
expr_fewer names (RawName n) = rw (scalar_one (variable_of (find n.text names))) (omega arith)
expr_fewer names (RawElement n i) = rw (element_same (variable_of (find n.text names)) (expr_of names i)) (expr_fewer names i)
expr_fewer names (RawUnary op e) = expr_fewer names e
expr_fewer names (RawParenthesized e) = expr_fewer names e
expr_fewer names (RawBinary op l r) = let a = expr_fewer names l in let b = expr_fewer names r in omega arith
expr_fewer names (RawLogicalAnd l r) = let a = expr_fewer names l in let b = expr_fewer names r in omega arith
expr_fewer names (RawLogicalOr l r) = let a = expr_fewer names l in let b = expr_fewer names r in omega arith
expr_fewer names (RawConditional c l r) = let d = expr_fewer names c in let a = expr_fewer names l in let b = expr_fewer names r in omega arith
expr_fewer names _ = omega arith

arguments_fewer : (names : List Binding) (k : ℕ) (es : RawExprTrees) → k + length (listed es) ≤ 6 → arguments_temporaries k (exprs_of names (listed es)) ≤ raw_arguments_temporaries k es
arguments_fewer names k NoExprs h = omega arith
arguments_fewer names k (And e es) h =
    let a = expr_fewer names e in
    let b = arguments_fewer names (1 + k) es (omega arith) in
    omega arith

few_parameters : (m : ModelledCall) → parameters_of m ≤ 6
few_parameters ModelledCall.Accept = omega arith
few_parameters _ = omega arith

spawn_fewer : (names : List Binding) (k : ℕ) (es : RawExprTrees) → length (listed es) ≡ 2 → call_temporaries (spawn_of names k (listed es)) ≤ raw_arguments_temporaries 0 es
spawn_fewer names k (And a (And b NoExprs)) h = let d = expr_fewer names b in omega arith
spawn_fewer names k _ h = absurd (omega arith)

call_fewer_by : (names : List Binding) (u : Bool) (m : Meaning) (k : ℕ) (es : RawExprTrees) → IsSix m → is_wrong_count (takes m) (length (listed es)) ≡ false → (not (is_callable m) || (u && is_void m)) ≡ false
    → call_temporaries (call_by (callee_in m) names k (listed es)) ≤ raw_arguments_temporaries 0 es
call_fewer_by names u (Meaning.Function f gives params defined) k es s w v = let e = right_count params (length (listed es)) w in arguments_fewer names 0 es (omega arith)
call_fewer_by names u (Meaning.Modelled m) k es s w v = let e = right_count (parameters_of m) (length (listed es)) w in let f = few_parameters m in arguments_fewer names 0 es (omega arith)
call_fewer_by names u Meaning.Spawn k es s w v = spawn_fewer names k es (sym (right_count 2 (length (listed es)) w))
call_fewer_by names u _ k es s w v = cc

call_fewer : (names : List Binding) (u : Bool) (k : ℕ) (n : NameTree) (es : RawExprTrees) → AreSix names → call_faults u names n (listed es) ≡ [] → call_temporaries (call_of names k n (listed es)) ≤ raw_arguments_temporaries 0 es
call_fewer names u k n es six h =
    let o = find n.text names in
    let j = both_none (call_name_faults u o n.at (length (listed es))) (arguments_faults (callee_of o) names n.at (listed es)) h in
    let kn : Known o = known_call u o n.at (length (listed es)) j.0 in
    let m = kn.found.meaning in
    let a = rw kn.is at j.0 in
    let i = both_none (broken (is_wrong_count (takes m) (length (listed es))) n.at Rule.Arity) (broken (not (is_callable m) || (u && is_void m)) n.at Rule.Kind) a in
    rw kn.is (call_fewer_by names u m k es (find_six n.text names kn.found six kn.is)
    (not_broken (is_wrong_count (takes m) (length (listed es))) n.at Rule.Arity i.0) (not_broken (not (is_callable m) || (u && is_void m)) n.at Rule.Kind i.1))

held_fewer : (names : List Binding) (k : ℕ) (v : RawExprTree) → AreSix names → right_faults names v ≡ [] → held_temporaries (right_of names k v) ≤ raw_temporaries v
held_fewer names k (RawNumber v) six h = expr_fewer names (RawNumber v)
held_fewer names k (RawName n) six h = expr_fewer names (RawName n)
held_fewer names k (RawElement n i) six h = expr_fewer names (RawElement n i)
held_fewer names k (RawUnary op e) six h = expr_fewer names (RawUnary op e)
held_fewer names k (RawParenthesized e) six h = expr_fewer names (RawParenthesized e)
held_fewer names k (RawBinary op l r) six h = expr_fewer names (RawBinary op l r)
held_fewer names k (RawLogicalAnd l r) six h = expr_fewer names (RawLogicalAnd l r)
held_fewer names k (RawLogicalOr l r) six h = expr_fewer names (RawLogicalOr l r)
held_fewer names k (RawConditional c a b) six h = expr_fewer names (RawConditional c a b)
held_fewer names k (RawCall n es) six h = let a = call_fewer names true k n es six h in omega arith
held_fewer names k (RawTableCall n i e) six h = let a = expr_fewer names i in let b = expr_fewer names e in omega arith

right_held : (v : RightTree) → right_temporaries v ≤ held_temporaries v
right_held (Rattle.c_tree.specs.Trees.Computed e) = omega arith
right_held (Rattle.c_tree.specs.Trees.Called c) = omega arith

scalar_set_fewer : (x : Variable) (v : RightTree) (n : ℕ) → held_temporaries v ≤ n → simple_temporaries (set_scalar x v) ≤ n
scalar_set_fewer (Variable.Local x) v n h = let a = right_held v in omega arith
scalar_set_fewer (Variable.Global g) v n h = h

element_set_fewer : (x : Variable) (i : ExprTree) (v : RightTree) (a b : ℕ) → expr_temporaries i ≤ a → held_temporaries v ≤ b → simple_temporaries (set_element x i v) ≤ max a (1 + b)
element_set_fewer (Variable.Local x) i v a b h k = omega arith
element_set_fewer (Variable.Global g) i v a b h k = omega arith

simple_fewer : (s : Spot) (p : RawSimpleTree) → AreSix s.names → simple_faults s p ≡ [] → simple_temporaries (simple_of s p) ≤ raw_simple_temporaries p
simple_fewer s (RawDeclareWith n v) six h =
    let k = both_none (declare_faults s n) (right_faults s.names v) h in
    let a = held_fewer s.names s.site v six k.1 in let b = right_held (right_of s.names s.site v) in omega arith
simple_fewer s (RawSet n v) six h =
    let k = both_none (scalar_faults s.names n) (right_faults s.names v) h in
    scalar_set_fewer (variable_of (find n.text s.names)) (right_of s.names s.site v) (raw_temporaries v) (held_fewer s.names s.site v six k.1)
simple_fewer s (RawSetElement n i v) six h =
    let k = both_none (array_faults s.names n) (expr_faults s.names i ++ right_faults s.names v) h in
    let j = both_none (expr_faults s.names i) (right_faults s.names v) k.1 in
    element_set_fewer (variable_of (find n.text s.names)) (expr_of s.names i) (right_of s.names s.site v) (raw_temporaries i) (raw_temporaries v) (expr_fewer s.names i) (held_fewer s.names s.site v six j.1)
simple_fewer s (RawCalling n es) six h = call_fewer s.names false s.site n es six h
simple_fewer s (RawTableCalling n i e) six h = let a = expr_fewer s.names i in let b = expr_fewer s.names e in omega arith
simple_fewer s _ six h = omega arith

simples_fewer : (s : Spot) (ps : List RawSimpleTree) → AreSix s.names → simples_faults s ps ≡ [] → simples_temporaries (simples_of s ps) ≤ raw_simples_temporaries ps
simples_fewer s [] six h = omega arith
simples_fewer s (p ∷ ps) six h =
    let k = both_none (simple_faults s p) (simples_faults (simple_after s p) ps) h in
    larger_both _ _ _ _ (simple_fewer s p six k.0) (simples_fewer (simple_after s p) ps (simple_six s p six) k.1)

condition_fewer : (names : List Binding) (e : Option RawExprTree) → condition_temporaries (option_map (expr_of names) e) ≤ raw_optional_temporaries e
condition_fewer names None = omega arith
condition_fewer names (Some e) = expr_fewer names e

step_fewer : (s : Spot) (p : Option RawSimpleTree) → AreSix s.names → step_faults s p ≡ [] → step_temporaries (option_map (simple_of s) p) ≤ raw_step_temporaries p
step_fewer s None six h = omega arith
step_fewer s (Some p) six h = let k = both_none (step_kind p) (simple_faults s p) h in simple_fewer s p six k.1

returned_fewer : (gives : Bool) (s : Spot) (at : ℕ) (v : Option RawExprTree) → AreSix s.names → return_faults gives s.names at v ≡ [] → returned_temporaries (returned_of s v) ≤ raw_optional_temporaries v
returned_fewer gives s at None six h = omega arith
returned_fewer gives s at (Some v) six h = let k = both_none (broken (not gives) at Rule.Kind) (right_faults s.names v) h in held_fewer s.names s.site v six k.1

mutual
  pub stmt_fewer : (gives loop : Bool) (s : Spot) (p : RawStmtTree) → AreSix s.names → stmt_faults gives loop s p ≡ [] → stmt_temporaries (stmt_of s p) ≤ raw_stmt_temporaries p
  stmt_fewer gives loop s (RawDo p) six h = simple_fewer s p six h
  stmt_fewer gives loop s (RawBlock ps) six h = stmts_fewer gives loop (inside s) ps six h
  stmt_fewer gives loop s (RawIf c p) six h =
      let k = both_none (expr_faults s.names c) (stmt_faults gives loop (inside s) p) h in
      larger_both _ _ _ _ (expr_fewer s.names c) (stmt_fewer gives loop (inside s) p six k.1)
  stmt_fewer gives loop s (RawIfElse c p r) six h =
      let m = left s (stmt_after (inside s) p) in
      let k = both_none (expr_faults s.names c) (stmt_faults gives loop (inside s) p ++ stmt_faults gives loop (inside m) r) h in
      let j = both_none (stmt_faults gives loop (inside s) p) (stmt_faults gives loop (inside m) r) k.1 in
      larger_both _ _ _ _ (expr_fewer s.names c) (larger_both _ _ _ _ (stmt_fewer gives loop (inside s) p six j.0) (stmt_fewer gives loop (inside m) r six j.1))
  stmt_fewer gives loop s (RawWhile c p) six h =
      let k = both_none (expr_faults s.names c) (stmt_faults gives true (inside s) p) h in
      larger_both _ _ _ _ (expr_fewer s.names c) (stmt_fewer gives true (inside s) p six k.1)
  stmt_fewer gives loop s (RawFor init c step p) six h =
      let a = inside s in
      let b = simples_after a init in
      let d = step_after b step in
      let k = four_none _ _ _ _ h in
      let six_b : AreSix b.names = simples_six a init six in
      let six_d : AreSix d.names = step_six b step six_b in
      larger_both _ _ _ _ (simples_fewer a init six k.0) (larger_both _ _ _ _ (condition_fewer b.names c)
      (larger_both _ _ _ _ (step_fewer b step six_b k.2) (stmt_fewer gives true (inside d) p six_d k.3)))
  stmt_fewer gives loop s (RawReturn at v) six h = returned_fewer gives s at v six h
  stmt_fewer gives loop s _ six h = omega arith

  pub stmts_fewer : (gives loop : Bool) (s : Spot) (ps : RawStmtTrees) → AreSix s.names → stmts_faults gives loop s ps ≡ [] → stmts_temporaries (stmts_of s ps) ≤ raw_stmts_temporaries ps
  stmts_fewer gives loop s NoRawStmts six h = omega arith
  stmts_fewer gives loop s (RawThen p ps) six h =
      let k = both_none (stmt_faults gives loop s p) (stmts_faults gives loop (stmt_after s p) ps) h in
      larger_both _ _ _ _ (stmt_fewer gives loop s p six k.0) (stmts_fewer gives loop (stmt_after s p) ps (stmt_six s p six) k.1)
