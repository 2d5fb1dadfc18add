-- The number of the text's next call after a statement: each call of it has taken one.
use Rattle.hoist_meaning.proofs.Common.{ℕ, ◌+◌, ◌≡◌, List, [], ◌∷◌, ◌++◌, length, length-append, Option, Some, None, arith, RawExprTree, RawSimpleTree, RawDeclareWith, RawSet, RawSetElement, RawCalling, RawTableCalling, RawStmtTree, RawStmtTrees, RawDo, RawBlock, RawIf, RawIfElse, RawWhile, RawFor, RawReturn, NoRawStmts, RawThen, Spot, inside, left, is_call, expr_places, simple_places, simples_places, optional_places, step_places, stmt_places, stmts_places, calls_in, counted}
use Rattle.deep_mean.specs.Naming as deep
use Rattle.hoist_meaning.proofs.SiteNumbers.{calls_length, all_calls_length}

-- two lists one after another
two : (xs ys : List ℕ) (site m n : ℕ) → m ≡ site + length xs → n ≡ m + length ys → n ≡ site + length (xs ++ ys)
two xs ys site m n e f = let long = length-append xs ys in omega (arith, long, e, f)

pub simple_site : (s : Spot) (p : RawSimpleTree) → (deep.simple_after s p).site ≡ s.site + length (simple_places is_call p)
simple_site s (RawDeclareWith n v) = let e = calls_length v in omega (arith, e)
simple_site s (RawSet n v) = let e = calls_length v in omega (arith, e)
simple_site s (RawSetElement n i v) =
    let e = calls_length i in
    let g = calls_length v in
    let long = length-append (expr_places is_call i) (expr_places is_call v) in omega (arith, e, g, long)
simple_site s (RawCalling n es) = let e = all_calls_length es in omega (arith, e)
simple_site s (RawTableCalling n i e) =
    let h = calls_length i in
    let g = calls_length e in
    let long = length-append (expr_places is_call i) (expr_places is_call e) in omega (arith, h, g, long)
simple_site s _ = omega arith

pub simples_site : (s : Spot) (ps : List RawSimpleTree) → (deep.simples_after s ps).site ≡ s.site + length (simples_places is_call ps)
simples_site s [] = omega arith
simples_site s (p ∷ ps) = two (simple_places is_call p) (simples_places is_call ps) s.site (deep.simple_after s p).site (deep.simples_after s (p ∷ ps)).site (simple_site s p) (simples_site (deep.simple_after s p) ps)

pub optional_site : (s : Spot) (c : Option RawExprTree) → (deep.optional_after s c).site ≡ s.site + length (optional_places is_call c)
optional_site s None = omega arith
optional_site s (Some e) = let h = calls_length e in omega (arith, h)

pub step_site : (s : Spot) (p : Option RawSimpleTree) → (deep.step_after s p).site ≡ s.site + length (step_places is_call p)
step_site s None = omega arith
step_site s (Some p) = simple_site s p

counted_site : (s : Spot) (e : RawExprTree) → s.site + calls_in e ≡ s.site + length (expr_places is_call e)
counted_site s e = let h = calls_length e in omega (arith, h)

mutual
  pub deep_site : (s : Spot) (p : RawStmtTree) → (deep.stmt_after s p).site ≡ s.site + length (stmt_places is_call p)
  deep_site s (RawDo p) = simple_site s p
  deep_site s (RawBlock ps) = deep_sites (inside s) ps
  deep_site s (RawIf c p) =
      two (expr_places is_call c) (stmt_places is_call p) s.site (s.site + calls_in c) (deep.stmt_after s (RawIf c p)).site (counted_site s c) (deep_site (inside (counted s (calls_in c))) p)
  deep_site s (RawIfElse c p r) =
      let middle = inside (left s (deep.stmt_after (inside (counted s (calls_in c))) p)) in
      let one = deep_site (inside (counted s (calls_in c))) p in
      let other = two (stmt_places is_call p) (stmt_places is_call r) (s.site + calls_in c) middle.site (deep.stmt_after middle r).site one (deep_site middle r) in
      two (expr_places is_call c) (stmt_places is_call p ++ stmt_places is_call r) s.site (s.site + calls_in c) (deep.stmt_after middle r).site (counted_site s c) other
  deep_site s (RawWhile c p) =
      two (expr_places is_call c) (stmt_places is_call p) s.site (s.site + calls_in c) (deep.stmt_after s (RawWhile c p)).site (counted_site s c) (deep_site (inside (counted s (calls_in c))) p)
  deep_site s (RawFor init c step p) =
      let s1 = deep.simples_after (inside s) init in
      let s2 = deep.optional_after s1 c in
      let s3 = deep.step_after s2 step in
      let last = deep.stmt_after (inside s3) p in
      let h = two (step_places is_call step) (stmt_places is_call p) s2.site s3.site last.site (step_site s2 step) (deep_site (inside s3) p) in
      let g = two (optional_places is_call c) (step_places is_call step ++ stmt_places is_call p) s1.site s2.site last.site (optional_site s1 c) h in
      two (simples_places is_call init) (optional_places is_call c ++ (step_places is_call step ++ stmt_places is_call p)) s.site s1.site last.site (simples_site (inside s) init) g
  deep_site s (RawReturn at v) = optional_site s v
  deep_site s _ = omega arith

  pub deep_sites : (s : Spot) (ps : RawStmtTrees) → (deep.stmts_after s ps).site ≡ s.site + length (stmts_places is_call ps)
  deep_sites s NoRawStmts = omega arith
  deep_sites s (RawThen p ps) = two (stmt_places is_call p) (stmts_places is_call ps) s.site (deep.stmt_after s p).site (deep.stmts_after (deep.stmt_after s p) ps).site (deep_site s p) (deep_sites (deep.stmt_after s p) ps)
