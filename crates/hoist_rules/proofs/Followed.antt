-- Statements so far, followed by more.
use Rattle.std.proofs.lemmas.Grind.{common_steps}
use Rattle.hoist_rules.proofs.Common.{◌≡◌, refl, ap, ◌∙◌, sym, List, [], ◌∷◌, ◌++◌, append_assoc, append-nil, Option, RawExprTree, RawSimpleTree, RawStmtTree, RawIf, RawIfElse, RawWhile, RawFor, raw_in_order, as_body, is_call, expr_places, stmt_places, stmts_places, OpeningTree, OpenBlock, OpenIf, OpenWhile, OpenFor, whole, in_block, Received, Resolved, Kept, opening_places, then_all, then_open, then_else, then_close}
use Rattle.scope_rules.specs.Making.{Making, with_statement, with_statements}
use Rattle.scope_rules.proofs.WholeStatements.{closed_whole, closed_else}

-- ---- more statements

making_then : (m : Making) (xs ys : List RawStmtTree) → with_statements (with_statements m xs) ys ≡ with_statements m (xs ++ ys)
making_then m [] ys = refl
making_then m (x ∷ xs) ys = making_then (with_statement m x) xs ys

places_then : (xs ys : List RawStmtTree) → stmts_places is_call (raw_in_order xs) ++ stmts_places is_call (raw_in_order ys) ≡ stmts_places is_call (raw_in_order (xs ++ ys))
places_then [] ys = refl
places_then (x ∷ xs) ys =
    append_assoc (stmt_places is_call x) (stmts_places is_call (raw_in_order xs)) (stmts_places is_call (raw_in_order ys))
    ∙ ap (λ ps. stmt_places is_call x ++ ps) (places_then xs ys)

pub then_then : (r : Received) (xs ys : List RawStmtTree) → then_all (then_all r xs) ys ≡ then_all r (xs ++ ys)
unfolding then_all
then_then (Resolved m ps) xs ys =
    let making = making_then m xs ys in
    let places = append_assoc ps (stmts_places is_call (raw_in_order xs)) (stmts_places is_call (raw_in_order ys)) ∙ ap (λ qs. ps ++ qs) (places_then xs ys) in
    λ i. Resolved (making i) (places i)
then_then (Kept ss us) xs ys = ap (λ ts. Kept ts us) (append_assoc ss xs ys)

pub then_none : (r : Received) → then_all r [] ≡ r
unfolding then_all
then_none (Resolved m ps) = ap (Resolved m) (append-nil ps)
then_none (Kept ss us) = ap (λ ts. Kept ts us) (append-nil ss)

-- some, and then one more
pub then_pushed : (s t u : Received) (a : List RawStmtTree) (x y : RawStmtTree) → t ≡ then_all s a → u ≡ then_all t (x ∷ []) → x ≡ y → u ≡ then_all s (a ++ y ∷ [])
then_pushed s t u a x y ht hu hx = hu ∙ (λ i. then_all (ht i) (hx i ∷ [])) ∙ then_then s a (y ∷ [])

-- ---- a block, or a statement with a body

body_places : (ss : List RawStmtTree) → stmts_places is_call (raw_in_order ss) ≡ stmt_places is_call (as_body ss)
body_places (s ∷ []) = append-nil (stmt_places is_call s)
body_places _ = refl

whole_places : (o : OpeningTree) (ss : List RawStmtTree) → opening_places o ++ stmts_places is_call (raw_in_order ss) ≡ stmt_places is_call (whole o ss) ++ []
whole_places OpenBlock ss = sym (append-nil (stmts_places is_call (raw_in_order ss)))
whole_places (OpenIf c) ss = ap (λ ps. expr_places is_call c ++ ps) (body_places ss) ∙ sym (append-nil (expr_places is_call c ++ stmt_places is_call (as_body ss)))
whole_places (OpenWhile c) ss = ap (λ ps. expr_places is_call c ++ ps) (body_places ss) ∙ sym (append-nil (expr_places is_call c ++ stmt_places is_call (as_body ss)))
whole_places (OpenFor init c step) ss =
    let o = OpenFor init c step in
    ap (λ ps. opening_places o ++ ps) (body_places ss)
    ∙ (search (append_assoc) ∙ sym (append-nil (stmt_places is_call (whole o ss))))

pub closed_then : (o : OpeningTree) (r : Received) (ss : List RawStmtTree) → then_close (then_all (then_open o r) ss) ≡ then_all r (whole o ss ∷ [])
unfolding then_all then_open then_close
closed_then o (Resolved m ps) ss =
    let making = closed_whole o m ss in
    let places = append_assoc ps (opening_places o) (stmts_places is_call (raw_in_order ss)) ∙ ap (λ qs. ps ++ qs) (whole_places o ss) in
    λ i. Resolved (making i) (places i)
closed_then o (Kept before us) ss = refl

pub closed_block : (r : Received) (ss : List RawStmtTree) → then_close (then_all (then_open OpenBlock r) ss) ≡ then_all r (in_block ss ∷ [])
closed_block r ss = closed_then OpenBlock r ss

pub closed_if : (c : RawExprTree) (r : Received) (ss : List RawStmtTree) → then_close (then_all (then_open (OpenIf c) r) ss) ≡ then_all r (RawIf c (as_body ss) ∷ [])
closed_if c r ss = closed_then (OpenIf c) r ss

pub closed_while : (c : RawExprTree) (r : Received) (ss : List RawStmtTree) → then_close (then_all (then_open (OpenWhile c) r) ss) ≡ then_all r (RawWhile c (as_body ss) ∷ [])
closed_while c r ss = closed_then (OpenWhile c) r ss

pub closed_for : (init : List RawSimpleTree) (c : Option RawExprTree) (step : Option RawSimpleTree) (r : Received) (ss : List RawStmtTree)
    → then_close (then_all (then_open (OpenFor init c step) r) ss) ≡ then_all r (RawFor init c step (as_body ss) ∷ [])
closed_for init c step r ss = closed_then (OpenFor init c step) r ss

else_places : (ps : List Rattle.std.proofs.Common.ℕ) (c : RawExprTree) (ss ts : List RawStmtTree)
    → ((ps ++ expr_places is_call c) ++ stmts_places is_call (raw_in_order ss)) ++ stmts_places is_call (raw_in_order ts) ≡ ps ++ (stmt_places is_call (RawIfElse c (as_body ss) (as_body ts)) ++ [])
else_places ps c ss ts =
    let pc = expr_places is_call c in
    let pa = stmts_places is_call (raw_in_order ss) in
    let pb = stmts_places is_call (raw_in_order ts) in
    append_assoc (ps ++ pc) pa pb
    ∙ (append_assoc ps pc (pa ++ pb)
    ∙ ap (λ x. ps ++ x) ((λ i. pc ++ (body_places ss i ++ body_places ts i)) ∙ sym (append-nil (stmt_places is_call (RawIfElse c (as_body ss) (as_body ts))))))

pub closed_both : (c : RawExprTree) (r : Received) (ss ts : List RawStmtTree)
    → then_close (then_all (then_else (then_all (then_open (OpenIf c) r) ss)) ts) ≡ then_all r (RawIfElse c (as_body ss) (as_body ts) ∷ [])
unfolding then_all then_open then_else then_close
closed_both c (Resolved m ps) ss ts =
    let making = closed_else c m ss ts in
    let places = else_places ps c ss ts in
    λ i. Resolved (making i) (places i)
closed_both c (Kept before us) ss ts = refl

pub ruleset following = (common_steps, then_then, then_none, closed_block, closed_if, closed_while, closed_for, closed_both)
