-- A turn over the statements of a block, and statements with a body.
use Rattle.hoist_rules.proofs.Common.{ℕ, ◌+◌, ◌≡◌, ◌∙◌, sym, ap, true, false, [], ◌∷◌, arith, RawExprTree, RawStmtTree, RawStmtTrees, RawBlock, RawIfElse, RawWhile, RawThen, as_body, OpeningTree, OpenBlock, OpenIf, whole, holds_call, names_in, left_of, before, stmt_names, stmts_names, hoisted, all_hoisted, no_names, Received, then_all, then_open, then_else, then_close, are_many}
use Rattle.hoist_rules.proofs.Followed.{then_then, closed_then, closed_block, closed_both}
use Rattle.hoist_rules.proofs.MovedCalls.{single, many}

pub turn_statements : (k n : ℕ) (s : RawStmtTree) (ss : RawStmtTrees) (before after whole : Received) →
    after ≡ then_all before (hoisted k s) → n ≡ k + stmt_names s → then_all before (all_hoisted k (RawThen s ss)) ≡ whole → then_all after (all_hoisted n ss) ≡ whole
turn_statements k n s ss before after whole ha hn h =
    (λ i. then_all (ha i) (all_hoisted (hn i) ss)) ∙ then_then before (hoisted k s) (all_hoisted (k + stmt_names s) ss) ∙ h

pub turn_names : (k n whole : ℕ) (s : RawStmtTree) (ss : RawStmtTrees) → n ≡ k + stmt_names s → k + stmts_names (RawThen s ss) ≡ whole → n + stmts_names ss ≡ whole
turn_names k n whole s ss hn h = omega (arith, hn, h)

-- ---- a statement with a body, after what begins it (`a`), its body (`b`) and its end (`u`); `r` is what stood before it

pub whole_after : (o : OpeningTree) (k n : ℕ) (s : RawStmtTree) (r a b u : Received) →
    a ≡ then_open o r → n ≡ k → b ≡ then_all a (hoisted n s) → u ≡ then_close b → u ≡ then_all r (whole o (hoisted k s) ∷ [])
whole_after o k n s r a b u ha hn hb hu = hu ∙ (ap then_close (hb ∙ (λ i. then_all (ha i) (hoisted (hn i) s))) ∙ closed_then o r (hoisted k s))

pub block_after : (k n : ℕ) (s : RawStmtTree) (r a b u : Received) →
    a ≡ then_open OpenBlock r → n ≡ k → b ≡ then_all a (hoisted n s) → u ≡ then_close b → are_many (hoisted k s) ≡ true
    → u ≡ then_all r (as_body (hoisted k s) ∷ [])
block_after k n s r a b u ha hn hb hu h = whole_after OpenBlock k n s r a b u ha hn hb hu ∙ ap (λ x. then_all r (x ∷ [])) (sym (many (hoisted k s) h))

pub single_after : (k : ℕ) (s : RawStmtTree) (r u : Received)
    → u ≡ then_all r (hoisted k s) → are_many (hoisted k s) ≡ false → u ≡ then_all r (as_body (hoisted k s) ∷ [])
single_after k s r u hu h = hu ∙ ap (then_all r) (single s k h)

-- the statement is seen as `w`, and the statements of the block as `ts`
pub statements_after : (k n : ℕ) (w : RawStmtTree) (ss ts : RawStmtTrees) (r a b u : Received) →
    w ≡ RawBlock ss → ts ≡ ss → a ≡ then_open OpenBlock r → n ≡ k → b ≡ then_all a (all_hoisted n ts) → u ≡ then_close b → u ≡ then_all r (hoisted k w)
statements_after k n w ss ts r a b u hw ht ha hn hb hu =
    hu ∙ (ap then_close (hb ∙ (λ i. then_all (ha i) (all_hoisted (hn i) (ht i)))) ∙ (closed_block r (all_hoisted k ss) ∙ ap (λ x. then_all r (hoisted k x)) (sym hw)))

-- an if with an else: its parts are seen as `s1` and `t1`
pub both_after : (k n m : ℕ) (w s t s1 t1 : RawStmtTree) (c : RawExprTree) (r a b d e u : Received) →
    w ≡ RawIfElse c s t → s1 ≡ s → t1 ≡ t → a ≡ then_open (OpenIf (left_of k c)) (then_all r (before k c)) → n ≡ k + names_in c →
    b ≡ then_all a (hoisted n s1) → m ≡ n + stmt_names s1 → d ≡ then_else b → e ≡ then_all d (hoisted m t1) → u ≡ then_close e → u ≡ then_all r (hoisted k w)
both_after k n m w s t s1 t1 c r a b d e u hw hs ht ha hn hb hm hd he hu =
    let ss = hoisted (k + names_in c) s in
    let at : m ≡ k + names_in c + stmt_names s = hm ∙ (λ i. hn i + stmt_names (hs i)) in
    let ts = hoisted (k + names_in c + stmt_names s) t in
    let one : b ≡ then_all (then_open (OpenIf (left_of k c)) (then_all r (before k c))) ss = hb ∙ (λ i. then_all (ha i) (hoisted (hn i) (hs i))) in
    let both : e ≡ then_all (then_else (then_all (then_open (OpenIf (left_of k c)) (then_all r (before k c))) ss)) ts =
    he ∙ (λ i. then_all ((hd ∙ ap then_else one) i) (hoisted (at i) (ht i))) in
    hu ∙ (ap then_close both
    ∙ (closed_both (left_of k c) (then_all r (before k c)) ss ts
    ∙ (then_then r (before k c) (RawIfElse (left_of k c) (as_body ss) (as_body ts) ∷ [])
    ∙ ap (λ x. then_all r (hoisted k x)) (sym hw))))

pub while_names : (k n : ℕ) (w s s1 : RawStmtTree) (c : RawExprTree) → w ≡ RawWhile c s → s1 ≡ s → holds_call c ≡ false → n ≡ k + stmt_names s1 → n ≡ k + stmt_names w
while_names k n w s s1 c hw hs h hn =
    let none = no_names c h in
    let same : k + stmt_names s ≡ k + stmt_names (RawWhile c s) = omega (arith, none) in
    hn ∙ (ap (λ x. k + stmt_names x) hs ∙ (same ∙ ap (λ x. k + stmt_names x) (sym hw)))
