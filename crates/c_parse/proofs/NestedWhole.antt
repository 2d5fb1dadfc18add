-- There is no call that is not whole exactly where every call is whole.
use Rattle.c_parse.proofs.Common.{ℕ, ◌≡◌, refl, ap, ◌∙◌, List, [], ◌∷◌, Option, Some, None, RawExprTree, RawExprTrees, RawElement, RawUnary, RawParenthesized, RawBinary, RawLogicalAnd, RawLogicalOr, RawConditional, RawCall, RawTableCall, NoExprs, And, RawSimpleTree, RawDeclareWith, RawSet, RawSetElement, RawCalling, RawTableCalling, RawStmtTree, RawStmtTrees, RawDo, RawBlock, RawIf, RawIfElse, RawWhile, RawFor, RawReturn, NoRawStmts, RawThen, RawItemTree, RawFunctionItem, HasNoCall, HaveNoCall, IsValueWhole, IsSimpleWhole, AreSimplesWhole, IsConditionWhole, IsStepWhole, IsReturnWhole, IsStmtWhole, AreStmtsWhole, IsItemWhole, AreCallsWhole, earlier, first_call, first_call_of, nested_in_value, nested_in_simple, nested_in_simples, nested_in_condition, nested_in_step, nested_in_return, nested_in_stmt, nested_in_stmts, nested_in_item, nested_in_items}

pub neither_left : (a b : Option ℕ) → earlier a b ≡ None → a ≡ None
neither_left None b e = refl
neither_left (Some at) b e = e

pub neither_right : (a b : Option ℕ) → earlier a b ≡ None → b ≡ None
neither_right None b e = e
neither_right (Some at) b e = cc

pub neither : {a b : Option ℕ} → a ≡ None → b ≡ None → earlier a b ≡ None
neither {a = x} {b = y} e f = ap (λ o. earlier o y) e ∙ f

no_call_whole : (e : RawExprTree) → first_call e ≡ None → HasNoCall e
no_call_whole (RawElement n i) h = no_call_whole i h
no_call_whole (RawUnary op e) h = no_call_whole e h
no_call_whole (RawParenthesized e) h = no_call_whole e h
no_call_whole (RawBinary op l r) h = (no_call_whole l (neither_left (first_call l) (first_call r) h), no_call_whole r (neither_right (first_call l) (first_call r) h))
no_call_whole (RawLogicalAnd l r) h = (no_call_whole l (neither_left (first_call l) (first_call r) h), no_call_whole r (neither_right (first_call l) (first_call r) h))
no_call_whole (RawLogicalOr l r) h = (no_call_whole l (neither_left (first_call l) (first_call r) h), no_call_whole r (neither_right (first_call l) (first_call r) h))
no_call_whole (RawConditional c a b) h = (no_call_whole c (neither_left (first_call c) (earlier (first_call a) (first_call b)) h), no_call_whole a (neither_left (first_call a) (first_call b) (neither_right (first_call c) (earlier (first_call a) (first_call b)) h)), no_call_whole b (neither_right (first_call a) (first_call b) (neither_right (first_call c) (earlier (first_call a) (first_call b)) h)))
no_call_whole (RawCall n es) h = cc
no_call_whole (RawTableCall n i e) h = cc
no_call_whole _ h = tt

no_call_none : (e : RawExprTree) → HasNoCall e → first_call e ≡ None
no_call_none (RawElement n i) h = no_call_none i h
no_call_none (RawUnary op e) h = no_call_none e h
no_call_none (RawParenthesized e) h = no_call_none e h
no_call_none (RawBinary op l r) h = neither (no_call_none l h.0) (no_call_none r h.1)
no_call_none (RawLogicalAnd l r) h = neither (no_call_none l h.0) (no_call_none r h.1)
no_call_none (RawLogicalOr l r) h = neither (no_call_none l h.0) (no_call_none r h.1)
no_call_none (RawConditional c a b) h = neither (no_call_none c h.0) (neither (no_call_none a h.1) (no_call_none b h.2))
no_call_none (RawCall n es) h = absurd h
no_call_none (RawTableCall n i e) h = absurd h
no_call_none _ h = refl

no_calls_whole : (es : RawExprTrees) → first_call_of es ≡ None → HaveNoCall es
no_calls_whole NoExprs h = tt
no_calls_whole (And e es) h = (no_call_whole e (neither_left (first_call e) (first_call_of es) h), no_calls_whole es (neither_right (first_call e) (first_call_of es) h))

no_calls_none : (es : RawExprTrees) → HaveNoCall es → first_call_of es ≡ None
no_calls_none NoExprs h = refl
no_calls_none (And e es) h = neither (no_call_none e h.0) (no_calls_none es h.1)

value_whole : (e : RawExprTree) → nested_in_value e ≡ None → IsValueWhole e
value_whole (RawElement n i) h = no_call_whole i h
value_whole (RawUnary op e) h = no_call_whole e h
value_whole (RawParenthesized e) h = no_call_whole e h
value_whole (RawBinary op l r) h = (no_call_whole l (neither_left (first_call l) (first_call r) h), no_call_whole r (neither_right (first_call l) (first_call r) h))
value_whole (RawLogicalAnd l r) h = (no_call_whole l (neither_left (first_call l) (first_call r) h), no_call_whole r (neither_right (first_call l) (first_call r) h))
value_whole (RawLogicalOr l r) h = (no_call_whole l (neither_left (first_call l) (first_call r) h), no_call_whole r (neither_right (first_call l) (first_call r) h))
value_whole (RawConditional c a b) h = (no_call_whole c (neither_left (first_call c) (earlier (first_call a) (first_call b)) h), no_call_whole a (neither_left (first_call a) (first_call b) (neither_right (first_call c) (earlier (first_call a) (first_call b)) h)), no_call_whole b (neither_right (first_call a) (first_call b) (neither_right (first_call c) (earlier (first_call a) (first_call b)) h)))
value_whole (RawCall n es) h = no_calls_whole es h
value_whole (RawTableCall n i e) h = (no_call_whole i (neither_left (first_call i) (first_call e) h), no_call_whole e (neither_right (first_call i) (first_call e) h))
value_whole _ h = tt

value_none : (e : RawExprTree) → IsValueWhole e → nested_in_value e ≡ None
value_none (RawElement n i) h = no_call_none i h
value_none (RawUnary op e) h = no_call_none e h
value_none (RawParenthesized e) h = no_call_none e h
value_none (RawBinary op l r) h = neither (no_call_none l h.0) (no_call_none r h.1)
value_none (RawLogicalAnd l r) h = neither (no_call_none l h.0) (no_call_none r h.1)
value_none (RawLogicalOr l r) h = neither (no_call_none l h.0) (no_call_none r h.1)
value_none (RawConditional c a b) h = neither (no_call_none c h.0) (neither (no_call_none a h.1) (no_call_none b h.2))
value_none (RawCall n es) h = no_calls_none es h
value_none (RawTableCall n i e) h = neither (no_call_none i h.0) (no_call_none e h.1)
value_none _ h = refl

simple_whole : (s : RawSimpleTree) → nested_in_simple s ≡ None → IsSimpleWhole s
simple_whole (RawDeclareWith n v) h = value_whole v h
simple_whole (RawSet n v) h = value_whole v h
simple_whole (RawSetElement n i v) h = (no_call_whole i (neither_left (first_call i) (nested_in_value v) h), value_whole v (neither_right (first_call i) (nested_in_value v) h))
simple_whole (RawCalling n es) h = no_calls_whole es h
simple_whole (RawTableCalling n i e) h = (no_call_whole i (neither_left (first_call i) (first_call e) h), no_call_whole e (neither_right (first_call i) (first_call e) h))
simple_whole _ h = tt

simple_none : (s : RawSimpleTree) → IsSimpleWhole s → nested_in_simple s ≡ None
simple_none (RawDeclareWith n v) h = value_none v h
simple_none (RawSet n v) h = value_none v h
simple_none (RawSetElement n i v) h = neither (no_call_none i h.0) (value_none v h.1)
simple_none (RawCalling n es) h = no_calls_none es h
simple_none (RawTableCalling n i e) h = neither (no_call_none i h.0) (no_call_none e h.1)
simple_none _ h = refl

pub simples_whole : (ss : List RawSimpleTree) → nested_in_simples ss ≡ None → AreSimplesWhole ss
simples_whole [] h = tt
simples_whole (s ∷ ss) h = (simple_whole s (neither_left (nested_in_simple s) (nested_in_simples ss) h), simples_whole ss (neither_right (nested_in_simple s) (nested_in_simples ss) h))

pub simples_none : (ss : List RawSimpleTree) → AreSimplesWhole ss → nested_in_simples ss ≡ None
simples_none [] h = refl
simples_none (s ∷ ss) h = neither (simple_none s h.0) (simples_none ss h.1)

pub condition_whole : (c : Option RawExprTree) → nested_in_condition c ≡ None → IsConditionWhole c
condition_whole None h = tt
condition_whole (Some e) h = no_call_whole e h

pub condition_none : (c : Option RawExprTree) → IsConditionWhole c → nested_in_condition c ≡ None
condition_none None h = refl
condition_none (Some e) h = no_call_none e h

pub step_whole : (s : Option RawSimpleTree) → nested_in_step s ≡ None → IsStepWhole s
step_whole None h = tt
step_whole (Some s) h = simple_whole s h

pub step_none : (s : Option RawSimpleTree) → IsStepWhole s → nested_in_step s ≡ None
step_none None h = refl
step_none (Some s) h = simple_none s h

returned_whole : (v : Option RawExprTree) → nested_in_return v ≡ None → IsReturnWhole v
returned_whole None h = tt
returned_whole (Some v) h = value_whole v h

returned_none : (v : Option RawExprTree) → IsReturnWhole v → nested_in_return v ≡ None
returned_none None h = refl
returned_none (Some v) h = value_none v h

mutual
  stmt_whole : (s : RawStmtTree) → nested_in_stmt s ≡ None → IsStmtWhole s
  stmt_whole (RawDo s) h = simple_whole s h
  stmt_whole (RawBlock ss) h = stmts_whole ss h
  stmt_whole (RawIf c s) h = (no_call_whole c (neither_left (first_call c) (nested_in_stmt s) h), stmt_whole s (neither_right (first_call c) (nested_in_stmt s) h))
  stmt_whole (RawIfElse c s r) h = (no_call_whole c (neither_left (first_call c) (earlier (nested_in_stmt s) (nested_in_stmt r)) h), stmt_whole s (neither_left (nested_in_stmt s) (nested_in_stmt r) (neither_right (first_call c) (earlier (nested_in_stmt s) (nested_in_stmt r)) h)), stmt_whole r (neither_right (nested_in_stmt s) (nested_in_stmt r) (neither_right (first_call c) (earlier (nested_in_stmt s) (nested_in_stmt r)) h)))
  stmt_whole (RawWhile c s) h = (no_call_whole c (neither_left (first_call c) (nested_in_stmt s) h), stmt_whole s (neither_right (first_call c) (nested_in_stmt s) h))
  stmt_whole (RawFor init c last s) h = (simples_whole init (neither_left (nested_in_simples init) (earlier (nested_in_condition c) (earlier (nested_in_step last) (nested_in_stmt s))) h), condition_whole c (neither_left (nested_in_condition c) (earlier (nested_in_step last) (nested_in_stmt s)) (neither_right (nested_in_simples init) (earlier (nested_in_condition c) (earlier (nested_in_step last) (nested_in_stmt s))) h)), step_whole last (neither_left (nested_in_step last) (nested_in_stmt s) (neither_right (nested_in_condition c) (earlier (nested_in_step last) (nested_in_stmt s)) (neither_right (nested_in_simples init) (earlier (nested_in_condition c) (earlier (nested_in_step last) (nested_in_stmt s))) h))), stmt_whole s (neither_right (nested_in_step last) (nested_in_stmt s) (neither_right (nested_in_condition c) (earlier (nested_in_step last) (nested_in_stmt s)) (neither_right (nested_in_simples init) (earlier (nested_in_condition c) (earlier (nested_in_step last) (nested_in_stmt s))) h))))
  stmt_whole (RawReturn at v) h = returned_whole v h
  stmt_whole _ h = tt

  stmt_none : (s : RawStmtTree) → IsStmtWhole s → nested_in_stmt s ≡ None
  stmt_none (RawDo s) h = simple_none s h
  stmt_none (RawBlock ss) h = stmts_none ss h
  stmt_none (RawIf c s) h = neither (no_call_none c h.0) (stmt_none s h.1)
  stmt_none (RawIfElse c s r) h = neither (no_call_none c h.0) (neither (stmt_none s h.1) (stmt_none r h.2))
  stmt_none (RawWhile c s) h = neither (no_call_none c h.0) (stmt_none s h.1)
  stmt_none (RawFor init c last s) h = neither (simples_none init h.0) (neither (condition_none c h.1) (neither (step_none last h.2) (stmt_none s h.3)))
  stmt_none (RawReturn at v) h = returned_none v h
  stmt_none _ h = refl

  stmts_whole : (ss : RawStmtTrees) → nested_in_stmts ss ≡ None → AreStmtsWhole ss
  stmts_whole NoRawStmts h = tt
  stmts_whole (RawThen s ss) h = (stmt_whole s (neither_left (nested_in_stmt s) (nested_in_stmts ss) h), stmts_whole ss (neither_right (nested_in_stmt s) (nested_in_stmts ss) h))

  stmts_none : (ss : RawStmtTrees) → AreStmtsWhole ss → nested_in_stmts ss ≡ None
  stmts_none NoRawStmts h = refl
  stmts_none (RawThen s ss) h = neither (stmt_none s h.0) (stmts_none ss h.1)

item_whole : (i : RawItemTree) → nested_in_item i ≡ None → IsItemWhole i
item_whole (RawFunctionItem gives n params body) h = stmts_whole body h
item_whole _ h = tt

item_none : (i : RawItemTree) → IsItemWhole i → nested_in_item i ≡ None
item_none (RawFunctionItem gives n params body) h = stmts_none body h
item_none _ h = refl

pub items_whole : (is : List RawItemTree) → nested_in_items is ≡ None → AreCallsWhole is
items_whole [] h = tt
items_whole (i ∷ is) h = (item_whole i (neither_left (nested_in_item i) (nested_in_items is) h), items_whole is (neither_right (nested_in_item i) (nested_in_items is) h))

pub items_none : (is : List RawItemTree) → AreCallsWhole is → nested_in_items is ≡ None
items_none [] h = refl
items_none (i ∷ is) h = neither (item_none i h.0) (items_none is h.1)
