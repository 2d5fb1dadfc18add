-- The words that functions declare, as they are counted.
use Rattle.scope_rules.proofs.Common.{ℕ, zero, suc, ◌≡◌, refl, ap, ◌∙◌, List, [], ◌∷◌, ◌++◌, length, drop, sum, max, arith, NameTree, RawStmtTrees, FunctionTree, stmts_names, scalars, declared_words, capped, Spot, stmts_after, stmts_of, unsized, params_after, most_locals}
use Rattle.scope_rules.proofs.Growth.{words, stmts_grown}
use Rattle.scope_rules.proofs.Programs.{params_sizes}

locals_more : (fs : List FunctionTree) (f : FunctionTree) → most_locals (fs ++ f ∷ []) ≡ max (most_locals fs) (sum (declared_words f))
locals_more [] f = omega arith
locals_more (g ∷ fs) f = let k = locals_more fs f in omega arith

pub counted_more : (fs : List FunctionTree) (f : FunctionTree) (old here new : ℕ) → old ≡ capped (most_locals fs) → here ≡ capped (sum (declared_words f)) → new ≡ max old here → new ≡ capped (most_locals (fs ++ f ∷ []))
counted_more fs f old here new a b c = let k = locals_more fs f in omega arith

drop_scalars : (n : ℕ) (ws : List ℕ) → drop n (scalars n ++ ws) ≡ ws
drop_scalars zero ws = refl
drop_scalars (suc n) ws = drop_scalars n ws

pub body_words : (s : Spot) (ps : List NameTree) (body : RawStmtTrees)
    → drop (length ps) (stmts_after (params_after (unsized s) ps) body).sizes ≡ words (stmts_names (stmts_of (params_after (unsized s) ps) body))
body_words s ps body =
    let b = params_after (unsized s) ps in
    let ws = words (stmts_names (stmts_of b body)) in
    ap (drop (length ps)) ((stmts_grown b body).sizes ∙ ap (λ x. x ++ ws) (params_sizes (unsized s) ps)) ∙ drop_scalars (length ps) ws
