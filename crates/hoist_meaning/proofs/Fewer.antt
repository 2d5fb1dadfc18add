-- The text declares no more variables than the rewritten tree.
use Rattle.hoist_meaning.proofs.Common.{ℕ, ◌+◌, ◌≡◌, ◌≤◌, refl, sym, ap, subst, ◌∙◌, Bool, true, false, List, [], ◌∷◌, ◌++◌, length, length-append, Option, Some, None, arith, RawExprTree, RawSimpleTree, RawDeclareScalar, RawDeclareArray, RawDeclareWith, RawStmtTree, RawStmtTrees, RawDo, RawBlock, RawIf, RawIfElse, RawWhile, RawFor, RawBreak, RawReturn, NoRawStmts, RawThen, raw_in_order, as_body, Spot, inside, left, stmt_after, stmts_after, calls_in, counted, holds_call, names_in, left_of, before, is_false, value_before, value_left, simple_left, simple_before, stmt_names, hoisted, all_hoisted}
use Rattle.scope_rules.specs.Simples as tree_simples
use Rattle.scope_rules.specs.Statements as tree_stmts
use Rattle.deep_mean.specs.Naming as deep
use Rattle.hoist_meaning.proofs.Items.{after, after_both}
use Rattle.hoist_meaning.proofs.Sizes.{Grows, stmt_grows, stmts_grow}
use Rattle.hoist_meaning.proofs.Pieces.{grows_length, body_is}
use Rattle.hoist_meaning.proofs.Sound.{in_turn, after_test}
use Rattle.hoist_meaning.proofs.Texts.{while_plain, while_held}

-- what comes after in the text is no more than what comes after in the tree
abbrev pub NoMore : Spot → Spot → Spot → Spot → Type 0
NoMore s u t v = length u.sizes + length t.sizes ≤ length s.sizes + length v.sizes

no_more_on : (s u w t v x : Spot) → NoMore s u t v → NoMore u w v x → NoMore s w t x
no_more_on s u w t v x h g = omega (arith, h, g)

-- where the tree declares more at first
more_first : (s u t v w : Spot) → Grows t.sizes v.sizes → NoMore s u v w → NoMore s u t w
more_first s u t v w h g = let long = grows_length t.sizes v.sizes h in omega (arith, long, g)

one_size : (sizes : List ℕ) (n : ℕ) → length (sizes ++ n ∷ []) ≡ length sizes + 1
one_size sizes n = let long = length-append sizes (n ∷ []) in omega (arith, long)

-- a simple statement, and what is left of it
left_no_more : (k : ℕ) (s t : Spot) (p : RawSimpleTree) → NoMore s (deep.simple_after s p) t (tree_simples.simple_after t (simple_left k p))
left_no_more k s t (RawDeclareScalar n) = let a = one_size s.sizes 1 in let b = one_size t.sizes 1 in omega (arith, a, b)
left_no_more k s t (RawDeclareArray n size) = let a = one_size s.sizes size in let b = one_size t.sizes size in omega (arith, a, b)
left_no_more k s t (RawDeclareWith n v) = let a = one_size s.sizes 1 in let b = one_size t.sizes 1 in omega (arith, a, b)
left_no_more k s t _ = omega arith

same_no_more : (s t : Spot) (p : RawSimpleTree) → NoMore s (deep.simple_after s p) t (tree_simples.simple_after t p)
same_no_more s t (RawDeclareScalar n) = let a = one_size s.sizes 1 in let b = one_size t.sizes 1 in omega (arith, a, b)
same_no_more s t (RawDeclareArray n size) = let a = one_size s.sizes size in let b = one_size t.sizes size in omega (arith, a, b)
same_no_more s t (RawDeclareWith n v) = let a = one_size s.sizes 1 in let b = one_size t.sizes 1 in omega (arith, a, b)
same_no_more s t _ = omega arith

parts_no_more : (s t : Spot) (ps : List RawSimpleTree) → NoMore s (deep.simples_after s ps) t (tree_simples.simples_after t ps)
parts_no_more s t [] = omega arith
parts_no_more s t (p ∷ ps) =
    let s1 = deep.simple_after s p in
    let t1 = tree_simples.simple_after t p in
    no_more_on s s1 (deep.simples_after s1 ps) t t1 (tree_simples.simples_after t1 ps) (same_no_more s t p) (parts_no_more s1 t1 ps)

turn_no_more : (s t : Spot) (c : Option RawExprTree) → NoMore s (deep.optional_after s c) t t
turn_no_more s t None = omega arith
turn_no_more s t (Some e) = omega arith

step_no_more : (s t : Spot) (step : Option RawSimpleTree) → NoMore s (deep.step_after s step) t (tree_stmts.step_after t step)
step_no_more s t None = omega arith
step_no_more s t (Some p) = same_no_more s t p

-- what goes before a statement, and then the statement
joined_no_more : (s u t : Spot) (ss : List RawStmtTree) (p : RawStmtTree) → NoMore s u (after t ss) (stmt_after (after t ss) p) → NoMore s u t (after t (ss ++ p ∷ []))
joined_no_more s u t ss p h =
    subst (λ v. NoMore s u t v) (sym (after_both t ss (p ∷ []))) (more_first s u t (after t ss) (stmt_after (after t ss) p) (stmts_grow t (raw_in_order ss)) h)

-- a body
body_no_more : (s u t v : Spot) (ss : List RawStmtTree) → v.sizes ≡ t.sizes → ((w : Spot) → NoMore s u w (after w ss)) → NoMore s u t (stmt_after v (as_body ss))
body_no_more s u t v ss same h =
    let b = body_is true true [] v ss in
    let there = h b.place in
    let first : length b.place.sizes ≡ length t.sizes = ap length b.sizes ∙ ap length same in
    let last : length (stmt_after v (as_body ss)).sizes ≡ length (after b.place ss).sizes = ap length b.later_sizes in omega (arith, there, first, last)

while_no_more : (e : RawExprTree) (p : RawStmtTree) → ((k : ℕ) (s t : Spot) → NoMore s (deep.stmt_after s p) t (after t (hoisted k p))) → (b : Bool) → holds_call e ≡ b → (k : ℕ) (s t : Spot) → NoMore s (deep.stmt_after s (RawWhile e p)) t (after t (hoisted k (RawWhile e p)))
while_no_more e p rest true is k s t =
    let s1 = inside (counted s (calls_in e)) in
    let t3 = after (in_turn t) (before k e) in
    let body = as_body (hoisted (k + names_in e) p) in
    let test = RawIf (is_false (left_of k e)) (RawBreak 0) in
    let there = body_no_more s1 (deep.stmt_after s1 p) (after_test t k e) (after_test t k e) (hoisted (k + names_in e) p) refl (λ w. rest (k + names_in e) s1 w) in
    let tested = grows_length t3.sizes (after_test t k e).sizes (stmt_grows t3 test) in
    let first = grows_length t.sizes t3.sizes (stmts_grow (in_turn t) (raw_in_order (before k e))) in
    let whole : NoMore s (deep.stmt_after s (RawWhile e p)) t (after (in_turn t) (before k e ++ test ∷ body ∷ [])) =
    subst (λ (v : Spot). NoMore s (deep.stmt_after s (RawWhile e p)) t v) (sym (after_both (in_turn t) (before k e) (test ∷ body ∷ []))) (omega (arith, there, tested, first)) in
    subst (λ ss. NoMore s (deep.stmt_after s (RawWhile e p)) t (after t ss)) (while_held k e p is) whole
while_no_more e p rest false is k s t =
    let s1 = inside (counted s (calls_in e)) in
    subst (λ ss. NoMore s (deep.stmt_after s (RawWhile e p)) t (after t ss)) (while_plain k e p is)
    (body_no_more s1 (deep.stmt_after s1 p) t (inside t) (hoisted k p) refl (λ w. rest k s1 w))

mutual
  pub stmt_no_more : (p : RawStmtTree) (k : ℕ) (s t : Spot) → NoMore s (deep.stmt_after s p) t (after t (hoisted k p))
  stmt_no_more (RawDo p) k s t = joined_no_more s (deep.simple_after s p) t (simple_before k p) (RawDo (simple_left k p)) (left_no_more k s (after t (simple_before k p)) p)
  stmt_no_more (RawBlock ps) k s t = stmts_no_more ps k (inside s) (inside t)
  stmt_no_more (RawIf e p) k s t =
      let t1 = after t (before k e) in
      let s1 = inside (counted s (calls_in e)) in
      joined_no_more s (deep.stmt_after s (RawIf e p)) t (before k e) (RawIf (left_of k e) (as_body (hoisted (k + names_in e) p)))
      (body_no_more s1 (deep.stmt_after s1 p) t1 (inside t1) (hoisted (k + names_in e) p) refl (λ w. stmt_no_more p (k + names_in e) s1 w))
  stmt_no_more (RawIfElse e p r) k s t =
      let t1 = after t (before k e) in
      let s1 = inside (counted s (calls_in e)) in
      let s2 = inside (left s (deep.stmt_after s1 p)) in
      let body = as_body (hoisted (k + names_in e) p) in
      let t2 = inside (left t1 (stmt_after (inside t1) body)) in
      joined_no_more s (deep.stmt_after s (RawIfElse e p r)) t (before k e) (RawIfElse (left_of k e) body (as_body (hoisted (k + names_in e + stmt_names p) r)))
      (no_more_on s1 s2 (deep.stmt_after s2 r) t1 t2 (stmt_after t2 (as_body (hoisted (k + names_in e + stmt_names p) r)))
      (body_no_more s1 (deep.stmt_after s1 p) t1 (inside t1) (hoisted (k + names_in e) p) refl (λ w. stmt_no_more p (k + names_in e) s1 w))
      (body_no_more s2 (deep.stmt_after s2 r) t2 t2 (hoisted (k + names_in e + stmt_names p) r) refl (λ w. stmt_no_more r (k + names_in e + stmt_names p) s2 w)))
  stmt_no_more (RawWhile e p) k s t =
      while_no_more e p (λ k' s' t'. stmt_no_more p k' s' t') (holds_call e) refl k s t
  stmt_no_more (RawFor init c step p) k s t =
      let s1 = deep.simples_after (inside s) init in
      let t1 = tree_simples.simples_after (inside t) init in
      let s2 = deep.optional_after s1 c in
      let s3 = deep.step_after s2 step in
      let t3 = tree_stmts.step_after t1 step in
      let one = parts_no_more (inside s) (inside t) init in
      let two = turn_no_more s1 t1 c in
      let three = step_no_more s2 t1 step in
      let four = body_no_more (inside s3) (deep.stmt_after (inside s3) p) t3 (inside t3) (hoisted k p) refl (λ w. stmt_no_more p k (inside s3) w) in omega (arith, one, two, three, four)
  stmt_no_more (RawReturn at (Some v)) k s t = joined_no_more s (counted s (calls_in v)) t (value_before k v) (RawReturn at (Some (value_left k v))) (omega arith)
  stmt_no_more _ k s t = omega arith

  pub stmts_no_more : (ps : RawStmtTrees) (k : ℕ) (s t : Spot) → NoMore s (deep.stmts_after s ps) t (after t (all_hoisted k ps))
  stmts_no_more NoRawStmts k s t = omega arith
  stmts_no_more (RawThen p ps) k s t =
      let s1 = deep.stmt_after s p in
      let t1 = after t (hoisted k p) in
      subst (λ v. NoMore s (deep.stmts_after s (RawThen p ps)) t v) (sym (after_both t (hoisted k p) (all_hoisted (k + stmt_names p) ps)))
      (no_more_on s s1 (deep.stmts_after s1 ps) t t1 (after t1 (all_hoisted (k + stmt_names p) ps)) (stmt_no_more p k s t) (stmts_no_more ps (k + stmt_names p) s1 t1))
