-- Each name that is declared where no rule is broken has a word.
use Rattle.scope_rules.proofs.Common.{ℕ, ◌≡◌, ◌≤◌, Bool, true, List, [], ◌∷◌, ◌++◌, length, sum, Option, Some, None, arith, nat_lt, ◌||◌, option_map, RawSimpleTree, RawDeclareArray, RawSet, RawSetElement, RawCalling, RawTableCalling, RawStmtTree, RawStmtTrees, RawDo, RawBlock, RawIf, RawIfElse, RawWhile, RawFor, NoRawStmts, RawThen, sum_by-cons, Declared, simple_names, simples_names, step_names, stmt_names, stmts_names, Rule, find, variable_of, expr_faults, expr_of, right_of, Spot, declare_faults, size_faults, simple_faults, simple_of, simple_after, simples_faults, simples_of, simples_after, inside, left, step_kind, step_faults, step_after, stmt_after, stmt_faults, stmts_faults, stmt_of, stmts_of, or_parts}
use Rattle.scope_rules.proofs.NoFaults.{both_none, four_none, not_broken, not_less}
use Rattle.scope_rules.proofs.Growth.{words, set_scalar_names, set_element_names}

abbrev pub ArePositive : List Declared → Type 0
ArePositive [] = Unit {0}
ArePositive (d ∷ ds) = (1 ≤ d.words) × ArePositive ds

pub both_positive : (ds es : List Declared) → ArePositive ds → ArePositive es → ArePositive (ds ++ es)
both_positive [] es h k = k
both_positive (d ∷ ds) es h k = (h.0, both_positive ds es h.1 k)

pub no_more_than_words : (ds : List Declared) → ArePositive ds → length ds ≤ sum (words ds)
no_more_than_words [] h = omega arith
no_more_than_words (d ∷ ds) h = let k = no_more_than_words ds h.1 in omega (arith, h.0, sum_by-cons (λ (x : ℕ). x) d.words (words ds))

simple_positive : (s : Spot) (p : RawSimpleTree) → simple_faults s p ≡ [] → ArePositive (simple_names (simple_of s p))
simple_positive s (RawDeclareArray n size) h =
    let k = both_none (declare_faults s n) (size_faults n size) h in
    let b = or_parts (nat_lt size 1) (nat_lt 65536 size) (not_broken (nat_lt size 1 || nat_lt 65536 size) n.at Rule.Kind k.1) in
    (not_less size 1 b.0, tt)
simple_positive s (RawSet n v) h = rw (set_scalar_names (variable_of (find n.text s.names)) (right_of s.names s.site v)) tt
simple_positive s (RawSetElement n i v) h = rw (set_element_names (variable_of (find n.text s.names)) (expr_of s.names i) (right_of s.names s.site v)) tt
simple_positive s (RawCalling n es) h = tt
simple_positive s (RawTableCalling n i e) h = tt
simple_positive s _ h = (omega arith, tt)

simples_positive : (s : Spot) (ps : List RawSimpleTree) → simples_faults s ps ≡ [] → ArePositive (simples_names (simples_of s ps))
simples_positive s [] h = tt
simples_positive s (p ∷ ps) h =
    let k = both_none (simple_faults s p) (simples_faults (simple_after s p) ps) h in
    both_positive (simple_names (simple_of s p)) (simples_names (simples_of (simple_after s p) ps)) (simple_positive s p k.0) (simples_positive (simple_after s p) ps k.1)

step_positive : (s : Spot) (p : Option RawSimpleTree) → step_faults s p ≡ [] → ArePositive (step_names (option_map (simple_of s) p))
step_positive s None h = tt
step_positive s (Some p) h = let k = both_none (step_kind p) (simple_faults s p) h in simple_positive s p k.1

mutual
  pub stmt_positive : (gives loop : Bool) (s : Spot) (p : RawStmtTree) → stmt_faults gives loop s p ≡ [] → ArePositive (stmt_names (stmt_of s p))
  stmt_positive gives loop s (RawDo p) h = simple_positive s p h
  stmt_positive gives loop s (RawBlock ps) h = stmts_positive gives loop (inside s) ps h
  stmt_positive gives loop s (RawIf c p) h =
      let k = both_none (expr_faults s.names c) (stmt_faults gives loop (inside s) p) h in stmt_positive gives loop (inside s) p k.1
  stmt_positive gives loop s (RawIfElse c p r) h =
      let m = left s (stmt_after (inside s) p) in
      let k = both_none (expr_faults s.names c) (stmt_faults gives loop (inside s) p ++ stmt_faults gives loop (inside m) r) h in
      let j = both_none (stmt_faults gives loop (inside s) p) (stmt_faults gives loop (inside m) r) k.1 in
      both_positive (stmt_names (stmt_of (inside s) p)) (stmt_names (stmt_of (inside m) r)) (stmt_positive gives loop (inside s) p j.0) (stmt_positive gives loop (inside m) r j.1)
  stmt_positive gives loop s (RawWhile c p) h =
      let k = both_none (expr_faults s.names c) (stmt_faults gives true (inside s) p) h in stmt_positive gives true (inside s) p k.1
  stmt_positive gives loop s (RawFor init c step p) h =
      let a = inside s in
      let b = simples_after a init in
      let d = step_after b step in
      let k = four_none _ _ _ _ h in
      both_positive (simples_names (simples_of a init)) (step_names (option_map (simple_of b) step) ++ stmt_names (stmt_of (inside d) p)) (simples_positive a init k.0)
      (both_positive (step_names (option_map (simple_of b) step)) (stmt_names (stmt_of (inside d) p))
      (step_positive b step k.2) (stmt_positive gives true (inside d) p k.3))
  stmt_positive gives loop s _ h = tt

  pub stmts_positive : (gives loop : Bool) (s : Spot) (ps : RawStmtTrees) → stmts_faults gives loop s ps ≡ [] → ArePositive (stmts_names (stmts_of s ps))
  stmts_positive gives loop s NoRawStmts h = tt
  stmts_positive gives loop s (RawThen p ps) h =
      let k = both_none (stmt_faults gives loop s p) (stmts_faults gives loop (stmt_after s p) ps) h in
      both_positive (stmt_names (stmt_of s p)) (stmts_names (stmts_of (stmt_after s p) ps)) (stmt_positive gives loop s p k.0) (stmts_positive gives loop (stmt_after s p) ps k.1)
