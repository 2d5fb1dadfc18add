-- Statements that break no rule are well scoped, with numbers for names.
use Rattle.scope_rules.proofs.Common.{ℕ, ◌≡◌, ◌≤◌, refl, ap, Bool, true, false, not, List, [], ◌++◌, length, Option, Some, None, IsTrue, option_map, RawExprTree, RawSimpleTree, RawSet, RawSetElement, RawCalling, RawTableCalling, RawStmtTree, RawStmtTrees, RawDo, RawEmpty, RawBlock, RawIf, RawIfElse, RawWhile, RawFor, RawBreak, RawContinue, RawReturn, NoRawStmts, RawThen, simple_names, Context, with_names, scope_after, scope_after_all, IsConditionScoped, IsStepScoped, IsReturnScoped, IsStmtScoped, AreStmtsScoped, Rule, Binding, find, broken, variable_of, expr_faults, expr_of, right_faults, right_of, Spot, simple_faults, simple_of, simples_of, simples_after, inside, left, condition_faults, step_kind, step_faults, step_after, return_faults, returned_of, stmt_after, stmts_after, stmt_faults, stmts_faults, stmt_of, stmts_of, not-false}
use Rattle.scope_rules.proofs.NoFaults.{both_none, four_none, not_broken}
use Rattle.scope_rules.proofs.Fits.{AllFit}
use Rattle.scope_rules.proofs.ScopedExprs.{expr_scoped}
use Rattle.scope_rules.proofs.ScopedCalls.{right_scoped}
use Rattle.scope_rules.proofs.ScopedSimples.{IsPrefix, prefix_back, simple_scoped, simple_fits, simples_scoped, simples_fits}
use Rattle.scope_rules.proofs.Growth.{step_grown, stmt_grown, stmts_grown, set_scalar_names, set_element_names}

loop_true : (b : Bool) (at : ℕ) → broken (not b) at Rule.Kind ≡ [] → IsTrue b
loop_true true at h = refl
loop_true false at h = cc

-- a step that breaks no rule declares nothing
step_declares : (s : Spot) (p : RawSimpleTree) → step_kind p ≡ [] → simple_names (simple_of s p) ≡ []
step_declares s (RawSet n v) h = set_scalar_names (variable_of (find n.text s.names)) (right_of s.names s.site v)
step_declares s (RawSetElement n i v) h = set_element_names (variable_of (find n.text s.names)) (expr_of s.names i) (right_of s.names s.site v)
step_declares s (RawCalling n es) h = refl
step_declares s (RawTableCalling n i e) h = refl
step_declares s _ h = cc

module _ (c : Context) (small : length c.sizes ≤ 65536) where
  condition_scoped : (scope : List ℕ) (names : List Binding) (e : Option RawExprTree) → AllFit c scope names → condition_faults names e ≡ [] → IsConditionScoped c scope (option_map (expr_of names) e)
  condition_scoped scope names None fit h = tt
  condition_scoped scope names (Some e) fit h = expr_scoped c scope names fit e h

  step_scoped : (scope : List ℕ) (s : Spot) (p : Option RawSimpleTree) → AllFit c scope s.names → step_faults s p ≡ [] → IsPrefix (step_after s p).sizes c.sizes → IsStepScoped c scope (option_map (simple_of s) p)
  step_scoped scope s None fit h q = tt
  step_scoped scope s (Some p) fit h q =
      let k = both_none (step_kind p) (simple_faults s p) h in
      (ap length (step_declares s p k.0), simple_scoped c small scope s p fit k.1 q)

  step_fits : (scope : List ℕ) (s : Spot) (p : Option RawSimpleTree) → AllFit c scope s.names → step_faults s p ≡ [] → IsPrefix (step_after s p).sizes c.sizes → AllFit c scope (step_after s p).names
  step_fits scope s None fit h q = fit
  step_fits scope s (Some p) fit h q =
      let k = both_none (step_kind p) (simple_faults s p) h in
      rw (ap (with_names scope) (step_declares s p k.0)) at (simple_fits c small scope s p fit q)

  return_scoped : (scope : List ℕ) (s : Spot) (at : ℕ) (v : Option RawExprTree) → AllFit c scope s.names → return_faults c.gives s.names at v ≡ [] → IsReturnScoped c scope (returned_of s v)
  return_scoped scope s at None fit h = not_broken c.gives at Rule.Kind h
  return_scoped scope s at (Some v) fit h =
      let k = both_none (broken (not c.gives) at Rule.Kind) (right_faults s.names v) h in
      (not-false c.gives (not_broken (not c.gives) at Rule.Kind k.0), right_scoped c scope s.names fit s.site v k.1)

  stmt_fits : (scope : List ℕ) (s : Spot) (p : RawStmtTree) → AllFit c scope s.names → IsPrefix (stmt_after s p).sizes c.sizes → AllFit c (scope_after scope (stmt_of s p)) (stmt_after s p).names
  stmt_fits scope s (RawDo p) fit q = simple_fits c small scope s p fit q
  stmt_fits scope s RawEmpty fit q = fit
  stmt_fits scope s (RawBlock ps) fit q = fit
  stmt_fits scope s (RawIf e p) fit q = fit
  stmt_fits scope s (RawIfElse e p r) fit q = fit
  stmt_fits scope s (RawWhile e p) fit q = fit
  stmt_fits scope s (RawFor init e step p) fit q = fit
  stmt_fits scope s (RawBreak at) fit q = fit
  stmt_fits scope s (RawContinue at) fit q = fit
  stmt_fits scope s (RawReturn at None) fit q = fit
  stmt_fits scope s (RawReturn at (Some v)) fit q = fit

  mutual
    pub stmt_scoped : (loop : Bool) (scope : List ℕ) (s : Spot) (p : RawStmtTree) → AllFit c scope s.names → stmt_faults c.gives loop s p ≡ [] → IsPrefix (stmt_after s p).sizes c.sizes → IsStmtScoped c loop scope (stmt_of s p)
    stmt_scoped loop scope s (RawDo p) fit h q = simple_scoped c small scope s p fit h q
    stmt_scoped loop scope s RawEmpty fit h q = tt
    stmt_scoped loop scope s (RawBlock ps) fit h q = stmts_scoped loop scope (inside s) ps fit h q
    stmt_scoped loop scope s (RawIf e p) fit h q =
        let k = both_none (expr_faults s.names e) (stmt_faults c.gives loop (inside s) p) h in
        (expr_scoped c scope s.names fit e k.0, stmt_scoped loop scope (inside s) p fit k.1 q)
    stmt_scoped loop scope s (RawIfElse e p r) fit h q =
        let m = left s (stmt_after (inside s) p) in
        let k = both_none (expr_faults s.names e) (stmt_faults c.gives loop (inside s) p ++ stmt_faults c.gives loop (inside m) r) h in
        let j = both_none (stmt_faults c.gives loop (inside s) p) (stmt_faults c.gives loop (inside m) r) k.1 in
        let b : IsPrefix (stmt_after (inside s) p).sizes c.sizes = prefix_back (stmt_after (inside s) p).sizes (stmt_after (inside m) r).sizes c.sizes _ (stmt_grown (inside m) r).sizes q in
        (expr_scoped c scope s.names fit e k.0, stmt_scoped loop scope (inside s) p fit j.0 b, stmt_scoped loop scope (inside m) r fit j.1 q)
    stmt_scoped loop scope s (RawWhile e p) fit h q =
        let k = both_none (expr_faults s.names e) (stmt_faults c.gives true (inside s) p) h in
        (expr_scoped c scope s.names fit e k.0, stmt_scoped true scope (inside s) p fit k.1 q)
    stmt_scoped loop scope s (RawFor init e step p) fit h q =
        let a = inside s in
        let b = simples_after a init in
        let d = step_after b step in
        let k = four_none _ _ _ _ h in
        let qd : IsPrefix d.sizes c.sizes = prefix_back d.sizes (stmt_after (inside d) p).sizes c.sizes _ (stmt_grown (inside d) p).sizes q in
        let qb : IsPrefix b.sizes c.sizes = prefix_back b.sizes d.sizes c.sizes _ (step_grown b step).sizes qd in
        let there = scope_after_all scope (simples_of a init) in
        let fb : AllFit c there b.names = simples_fits c small scope a init fit qb in
        let fd : AllFit c there d.names = step_fits there b step fb k.2 qd in
        let body = stmt_scoped true there (inside d) p fd k.3 q in
        (simples_scoped c small scope a init fit k.0 qb, condition_scoped there b.names e fb k.1, step_scoped there b step fb k.2 qd, body)
    stmt_scoped loop scope s (RawBreak at) fit h q = loop_true loop at h
    stmt_scoped loop scope s (RawContinue at) fit h q = loop_true loop at h
    stmt_scoped loop scope s (RawReturn at v) fit h q = return_scoped scope s at v fit h

    pub stmts_scoped : (loop : Bool) (scope : List ℕ) (s : Spot) (ps : RawStmtTrees) → AllFit c scope s.names → stmts_faults c.gives loop s ps ≡ [] → IsPrefix (stmts_after s ps).sizes c.sizes → AreStmtsScoped c loop scope (stmts_of s ps)
    stmts_scoped loop scope s NoRawStmts fit h q = tt
    stmts_scoped loop scope s (RawThen p ps) fit h q =
        let k = both_none (stmt_faults c.gives loop s p) (stmts_faults c.gives loop (stmt_after s p) ps) h in
        let b : IsPrefix (stmt_after s p).sizes c.sizes = prefix_back (stmt_after s p).sizes (stmts_after (stmt_after s p) ps).sizes c.sizes _ (stmts_grown (stmt_after s p) ps).sizes q in
        (stmt_scoped loop scope s p fit k.0 b, stmts_scoped loop (scope_after scope (stmt_of s p)) (stmt_after s p) ps (stmt_fits scope s p fit b) k.1 q)
