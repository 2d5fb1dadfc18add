-- Statements one after another, as a list.
use Rattle.scope_rules.proofs.Common.{◌≡◌, refl, ap, List, [], ◌∷◌, RawStmtTree, Then, in_order, raw_in_order, Spot, stmt_of, stmts_of, stmt_after, stmts_list}

pub stmts_listed : (s : Spot) (ps : List RawStmtTree) → in_order (stmts_list s ps) ≡ stmts_of s (raw_in_order ps)
stmts_listed s [] = refl
stmts_listed s (p ∷ ps) = ap (λ x. Then (stmt_of s p) x) (stmts_listed (stmt_after s p) ps)
