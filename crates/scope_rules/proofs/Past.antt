-- Beyond the limit of calls no later site is within it.
use Rattle.scope_rules.proofs.Common.{ℕ, ◌≡◌, ◌≤◌, refl, sym, Bool, true, false, List, [], ◌∷◌, Option, Some, None, arith, nat_lt, RawExprTree, RawNumber, RawName, RawElement, RawUnary, RawParenthesized, RawBinary, RawLogicalAnd, RawLogicalOr, RawConditional, RawCall, RawTableCall, RawSimpleTree, RawDeclareWith, RawSet, RawSetElement, RawCalling, RawTableCalling, RawStmtTree, RawStmtTrees, RawDo, RawBlock, RawIf, RawIfElse, RawWhile, RawFor, RawReturn, NoRawStmts, RawThen, right_after, Spot, simple_after, simples_after, inside, left, step_after, returned_after, stmt_after, stmts_after}
use Rattle.scope_rules.proofs.LeastFaults.{less}
use Rattle.scope_rules.proofs.NoFaults.{not_less}

past_right : (k : ℕ) (v : RawExprTree) → 65536 ≤ k → 65536 ≤ right_after k v
past_right k (RawNumber v) h = h
past_right k (RawName n) h = h
past_right k (RawElement n i) h = h
past_right k (RawUnary op e) h = h
past_right k (RawParenthesized e) h = h
past_right k (RawBinary op l r) h = h
past_right k (RawLogicalAnd l r) h = h
past_right k (RawLogicalOr l r) h = h
past_right k (RawConditional c a b) h = h
past_right k (RawCall n es) h = omega (arith, h)
past_right k (RawTableCall n i e) h = omega (arith, h)

past_simple : (s : Spot) (p : RawSimpleTree) → 65536 ≤ s.site → 65536 ≤ (simple_after s p).site
past_simple s (RawDeclareWith n v) h = past_right s.site v h
past_simple s (RawSet n v) h = past_right s.site v h
past_simple s (RawSetElement n i v) h = past_right s.site v h
past_simple s (RawCalling n es) h = omega (arith, h)
past_simple s (RawTableCalling n i e) h = omega (arith, h)
past_simple s _ h = h

past_simples : (s : Spot) (ps : List RawSimpleTree) → 65536 ≤ s.site → 65536 ≤ (simples_after s ps).site
past_simples s [] h = h
past_simples s (p ∷ ps) h = past_simples (simple_after s p) ps (past_simple s p h)

past_step : (s : Spot) (p : Option RawSimpleTree) → 65536 ≤ s.site → 65536 ≤ (step_after s p).site
past_step s None h = h
past_step s (Some p) h = past_simple s p h

past_returned : (s : Spot) (v : Option RawExprTree) → 65536 ≤ s.site → 65536 ≤ (returned_after s v).site
past_returned s None h = h
past_returned s (Some v) h = past_right s.site v h

mutual
  past_stmt : (s : Spot) (p : RawStmtTree) → 65536 ≤ s.site → 65536 ≤ (stmt_after s p).site
  past_stmt s (RawDo p) h = past_simple s p h
  past_stmt s (RawBlock ps) h = past_stmts (inside s) ps h
  past_stmt s (RawIf c p) h = past_stmt (inside s) p h
  past_stmt s (RawIfElse c p r) h = past_stmt (inside (left s (stmt_after (inside s) p))) r (past_stmt (inside s) p h)
  past_stmt s (RawWhile c p) h = past_stmt (inside s) p h
  past_stmt s (RawFor init c step p) h =
      past_stmt (inside (step_after (simples_after (inside s) init) step)) p (past_step (simples_after (inside s) init) step (past_simples (inside s) init h))
  past_stmt s (RawReturn at v) h = past_returned s v h
  past_stmt s _ h = h

  past_stmts : (s : Spot) (ps : RawStmtTrees) → 65536 ≤ s.site → 65536 ≤ (stmts_after s ps).site
  past_stmts s NoRawStmts h = h
  past_stmts s (RawThen p ps) h = past_stmts (stmt_after s p) ps (past_stmt s p h)

within_by : (s : Spot) (ps : RawStmtTrees) (b : Bool) → b ≡ nat_lt 65535 s.site → (stmts_after s ps).site ≤ 65535 → s.site ≤ 65535
within_by s ps true e h =
    let l = less 65535 s.site (sym e) in
    let p = past_stmts s ps (omega (arith, l)) in
    omega (arith, h, p)
within_by s ps false e h = not_less 65535 s.site (sym e)

-- within the limit after statements, it was so before them
pub within_before : (s : Spot) (ps : RawStmtTrees) → (stmts_after s ps).site ≤ 65535 → s.site ≤ 65535
within_before s ps h = within_by s ps (nat_lt 65535 s.site) refl h
