-- The items of every statement of the text and of what stands for it in the tree are alike; so are the next turn of a loop, and what is to do
-- after a `continue`.
use Rattle.hoist_meaning.proofs.Common.{ℕ, ◌+◌, ◌≡◌, refl, sym, subst, inl, inr, true, false, List, [], ◌∷◌, ◌++◌, Option, Some, None, option_map, if◌then◌else◌, UnaryOperator, RawExprTree, RawStmtTree, RawStmtTrees, RawDo, RawEmpty, RawBlock, RawIf, RawIfElse, RawWhile, RawFor, RawBreak, RawContinue, RawReturn, NoRawStmts, RawThen, raw_in_order, as_body, Number, Unary, ProgramTree, Item, Loop, WhileLoop, ForLoop, Simply, Choose, Test, GiveBack, Back, expr_of, Spot, inside, left, stmt_after, simple_numbered, stmt_numbered, stmts_numbered, DeepProgram, calls_in, counted, holds_call, names_in, left_of, before, value_before, value_left, simple_left, simple_before, stmt_names, hoisted, all_hoisted, while_calling}
use Rattle.c_tree.specs.Trees as tree
use Rattle.c_mean.specs.ToDo as items
use Rattle.scope_rules.specs.Simples as tree_simples
use Rattle.scope_rules.specs.Statements as tree_stmts
use Rattle.deep_mean.specs.DeepTrees as deep_tree
use Rattle.deep_mean.specs.DeepToDo as deep_items
use Rattle.deep_mean.specs.Naming as deep
use Rattle.hoist_meaning.proofs.Bindings.{Agreement}
use Rattle.hoist_meaning.proofs.Items.{items_of, items_both, after}
use Rattle.hoist_meaning.proofs.Premises.{side_left}
use Rattle.hoist_meaning.proofs.Alike.{Within, ItemsAlike, Alike}
use Rattle.hoist_meaning.proofs.Goes.{choice_goes, return_goes}
use Rattle.hoist_meaning.proofs.Sound.{ConditionSound, IsBodyAt, in_turn, after_test, StmtSound, StmtsSound}
use Rattle.hoist_meaning.proofs.Turns.{passes_over, LoopSound, test_goes, calling_loop, turn_body, calling_goes}
use Rattle.hoist_meaning.proofs.Statements.{Led, Loops, A, simple_items, parts_items, step_items, turn_items}

-- a `while` as the one statement that stands in its place
pub while_plain : (k : ℕ) (e : RawExprTree) (p : RawStmtTree) → holds_call e ≡ false → RawWhile e (as_body (hoisted k p)) ∷ [] ≡ hoisted k (RawWhile e p)
while_plain k e p h = (λ i. (if sym h i then while_calling k e (as_body (hoisted (k + names_in e) p)) else RawWhile e (as_body (hoisted k p))) ∷ [])

pub while_held : (k : ℕ) (e : RawExprTree) (p : RawStmtTree) → holds_call e ≡ true → while_calling k e (as_body (hoisted (k + names_in e) p)) ∷ [] ≡ hoisted k (RawWhile e p)
while_held k e p h = (λ i. (if sym h i then while_calling k e (as_body (hoisted (k + names_in e) p)) else RawWhile e (as_body (hoisted k p))) ∷ [])

module _ (text : DeepProgram) (program : ProgramTree) (ns : List ℕ) (f : ℕ) where
  abbrev B : List Agreement → Agreement → List deep_items.Item → List Item → Type 0
  B os a ds is = A text program ns f os a ds is

  -- a body, from what its statement's items are
  body_alike : (os : List Agreement) (a b c d : Agreement) (k : ℕ) (t place : Spot) (p : RawStmtTree) (ds ds' : List deep_items.Item) (is : List Item) → Within c a → Within b d → IsBodyAt text program ns f k t place p
      → (B os d ds is → B os c ds' (items_of ns place (hoisted k p) is)) → B os b ds is → B os a ds' (items.before (stmt_numbered ns (tree_stmts.stmt_of t (as_body (hoisted k p)))) is)
  body_alike os a b c d k t place p ds ds' is in_a in_d at body rest =
      subst (λ there. B os a ds' there) (sym (at is)) (ItemsAlike.Outer os c a ds' (items_of ns place (hoisted k p) is) in_a (body (ItemsAlike.Outer os b d ds is in_d rest)))

  -- the test of a `while` in which no call is, and of one in which there is
  plain_test : (os : List Agreement) (a : Agreement) (k : ℕ) (s t : Spot) (e : RawExprTree) (loop : deep_items.Loop) (there : Loop) (ds : List deep_items.Item) (is : List Item) → holds_call e ≡ false → ConditionSound text program ns f a k s t e
      → B (a ∷ os) a (deep_items.body_before loop ds) (items.body_before there is) → B os a ds is → B os a (deep_items.Test (deep.expr_of s.names s.site e) loop ∷ ds) (Test (expr_of t.names e) there ∷ is)
  plain_test os a k s t e loop there ds is quiet h body rest =
      ItemsAlike.Testing os a (deep.expr_of s.names s.site e) loop ds (Test (expr_of t.names e) there ∷ is) (items.body_before there is) is (Test (expr_of t.names e) there ∷ is)
      (test_goes text program ns f a k e s t there is quiet h) (record { leaves = λ n. refl; skips = λ n. refl }) body rest

  calling_test : (os : List Agreement) (a : Agreement) (k : ℕ) (s t : Spot) (e : RawExprTree) (body : RawStmtTree) (loop : deep_items.Loop) (ds : List deep_items.Item) (is : List Item) → ConditionSound text program ns f a k s (in_turn t) e
      → B (a ∷ os) a (deep_items.body_before loop ds) (items.before (turn_body text program ns f k t e body) (Back (calling_loop text program ns f k t e body) ∷ is)) → B os a ds is
      → B os a (deep_items.Test (deep.expr_of s.names s.site e) loop ∷ ds) (Test (Number 1) (calling_loop text program ns f k t e body) ∷ is)
  calling_test os a k s t e body loop ds is h inner rest =
      let one : List Item = items.before (turn_body text program ns f k t e body) (Back (calling_loop text program ns f k t e body) ∷ is) in
      ItemsAlike.Testing os a (deep.expr_of s.names s.site e) loop ds (Choose (Unary UnaryOperator.Not (expr_of (after (in_turn t) (before k e)).names (left_of k e))) tree.Break tree.Empty ∷ one) one is (Test (Number 1) (calling_loop text program ns f k t e body) ∷ is)
      (calling_goes text program ns f a k e s t body is h) (record { leaves = λ n. refl; skips = λ n. refl }) inner rest

  mutual
    pub stmt_items : (o : Option Agreement) (a b : Agreement) (k : ℕ) (s t : Spot) (p : RawStmtTree) (os : List Agreement) (ds : List deep_items.Item) (is : List Item) → Led o os → StmtSound text program ns f o a b k s t p → B os b ds is
        → B os a (deep_items.before (deep.stmt_of s p) ds) (items_of ns t (hoisted k p) is)
    stmt_items o a b k s t (RawDo p) os ds is led h rest =
        subst (λ there. B os a (deep_items.Simply (deep.simple_of s p) ∷ ds) there) (sym (items_both ns t (simple_before k p) (RawDo (simple_left k p) ∷ []) is)) (simple_items text program ns f a b k s t p os ds is h rest)
    stmt_items o a b k s t RawEmpty os ds is led h rest = ItemsAlike.Outer os b a ds is h rest
    stmt_items o a b k s t (RawBlock ps) os ds is led h rest = stmts_items o a h.0 k (inside s) (inside t) ps os ds is led h.2 (ItemsAlike.Outer os b h.0 ds is h.1 rest)
    stmt_items o a b k s t (RawIf e p) os ds is led h rest =
        let place = after t (before k e) in
        let body = as_body (hoisted (k + names_in e) p) in
        let yes_ = stmt_numbered ns (tree_stmts.stmt_of (inside place) body) in
        let c = expr_of place.names (left_of k e) in
        let q = h.2 in
        subst (λ there. B os a (deep_items.Choose (deep.expr_of s.names s.site e) (deep.stmt_of (inside (counted s (calls_in e))) p) deep_tree.Empty ∷ ds) there) (sym (items_both ns t (before k e) (RawIf (left_of k e) body ∷ []) is))
        (ItemsAlike.Choosing os a (deep.expr_of s.names s.site e) (deep.stmt_of (inside (counted s (calls_in e))) p) deep_tree.Empty ds (Choose c yes_ tree.Empty ∷ is) (items.before yes_ is) is is (items_of ns t (before k e) (Choose c yes_ tree.Empty ∷ is))
        (choice_goes text program f ns h.0.gives h.0.loop a k h.0.variables e s t yes_ tree.Empty is h.0.scope h.0.sound)
        (passes_over (stmts_numbered ns (tree_stmts.stmts_of t (raw_in_order (before k e)))) (Choose c yes_ tree.Empty ∷ is) is (record { leaves = λ n. refl; skips = λ n. refl }))
        (body_alike os a b q.0 q.1 (k + names_in e) (inside place) q.2 p ds (deep_items.before (deep.stmt_of (inside (counted s (calls_in e))) p) ds) is q.3 q.4 q.5
        (λ inner. stmt_items o q.0 q.1 (k + names_in e) (inside (counted s (calls_in e))) q.2 p os ds is led q.6 inner) rest)
        (ItemsAlike.Outer os b a ds is h.1 rest) (ItemsAlike.Outer os b a ds is h.1 rest))
    stmt_items o a b k s t (RawIfElse e p r) os ds is led h rest =
        let place = after t (before k e) in
        let body = as_body (hoisted (k + names_in e) p) in
        let other = as_body (hoisted (k + names_in e + stmt_names p) r) in
        let there = inside (left place (stmt_after (inside place) body)) in
        let yes_ = stmt_numbered ns (tree_stmts.stmt_of (inside place) body) in
        let no_ = stmt_numbered ns (tree_stmts.stmt_of there other) in
        let c = expr_of place.names (left_of k e) in
        let s1 = inside (counted s (calls_in e)) in
        let s2 = inside (left s (deep.stmt_after s1 p)) in
        let q = h.2 in
        let w = h.3 in
        subst (λ there'. B os a (deep_items.Choose (deep.expr_of s.names s.site e) (deep.stmt_of s1 p) (deep.stmt_of s2 r) ∷ ds) there') (sym (items_both ns t (before k e) (RawIfElse (left_of k e) body other ∷ []) is))
        (ItemsAlike.Choosing os a (deep.expr_of s.names s.site e) (deep.stmt_of s1 p) (deep.stmt_of s2 r) ds (Choose c yes_ no_ ∷ is) (items.before yes_ is) (items.before no_ is) is (items_of ns t (before k e) (Choose c yes_ no_ ∷ is))
        (choice_goes text program f ns h.0.gives h.0.loop a k h.0.variables e s t yes_ no_ is h.0.scope h.0.sound)
        (passes_over (stmts_numbered ns (tree_stmts.stmts_of t (raw_in_order (before k e)))) (Choose c yes_ no_ ∷ is) is (record { leaves = λ n. refl; skips = λ n. refl }))
        (body_alike os a b q.0 q.1 (k + names_in e) (inside place) q.2 p ds (deep_items.before (deep.stmt_of s1 p) ds) is q.3 q.4 q.5 (λ inner. stmt_items o q.0 q.1 (k + names_in e) s1 q.2 p os ds is led q.6 inner) rest)
        (body_alike os a b w.0 w.1 (k + names_in e + stmt_names p) there w.2 r ds (deep_items.before (deep.stmt_of s2 r) ds) is w.3 w.4 w.5 (λ inner. stmt_items o w.0 w.1 (k + names_in e + stmt_names p) s2 w.2 r os ds is led w.6 inner) rest)
        (ItemsAlike.Outer os b a ds is h.1 rest))
    stmt_items o a b k s t (RawWhile e p) os ds is led (within, inl h) rest =
        let q = h.2 in
        let s1 = inside (counted s (calls_in e)) in
        let loop : deep_items.Loop = deep_items.WhileLoop (deep.expr_of s.names s.site e) (deep.stmt_of s1 p) in
        let there : Loop = WhileLoop (expr_of t.names e) (stmt_numbered ns (tree_stmts.stmt_of (inside t) (as_body (hoisted k p)))) in
        let kept = ItemsAlike.Outer os b a ds is within rest in
        let back = ItemsAlike.Turning os a loop there ds is (LoopSound.PlainWhile a q.0 q.1 k s t q.2 e p h.0 h.1 q.3 q.4 q.5 q.6) kept in
        subst (λ ss. B os a (deep_items.Test (deep.expr_of s.names s.site e) loop ∷ ds) (items_of ns t ss is)) (while_plain k e p h.0)
        (plain_test os a k s t e loop there ds is h.0 h.1
        (body_alike (a ∷ os) a a q.0 q.1 k (inside t) q.2 p (deep_items.Back loop ∷ ds) (deep_items.before (deep.stmt_of s1 p) (deep_items.Back loop ∷ ds)) (Back there ∷ is) q.3 q.4 q.5
        (λ inner. stmt_items (Some a) q.0 q.1 k s1 q.2 p (a ∷ os) (deep_items.Back loop ∷ ds) (Back there ∷ is) (Led.InLoop a os) q.6 inner) back) kept)
    stmt_items o a b k s t (RawWhile e p) os ds is led (within, inr h) rest =
        let q = h.2 in
        let s1 = inside (counted s (calls_in e)) in
        let body = as_body (hoisted (k + names_in e) p) in
        let loop : deep_items.Loop = deep_items.WhileLoop (deep.expr_of s.names s.site e) (deep.stmt_of s1 p) in
        let there : Loop = calling_loop text program ns f k t e body in
        let kept = ItemsAlike.Outer os b a ds is within rest in
        let back = ItemsAlike.Turning os a loop there ds is (LoopSound.CallingWhile a q.0 q.1 k s t q.2 e p h.1 q.3 q.4 q.5 q.6) kept in
        subst (λ ss. B os a (deep_items.Test (deep.expr_of s.names s.site e) loop ∷ ds) (items_of ns t ss is)) (while_held k e p h.0)
        (calling_test os a k s t e body loop ds is h.1
        (body_alike (a ∷ os) a a q.0 q.1 (k + names_in e) (after_test t k e) q.2 p (deep_items.Back loop ∷ ds) (deep_items.before (deep.stmt_of s1 p) (deep_items.Back loop ∷ ds)) (Back there ∷ is) q.3 q.4 q.5
        (λ inner. stmt_items (Some a) q.0 q.1 (k + names_in e) s1 q.2 p (a ∷ os) (deep_items.Back loop ∷ ds) (Back there ∷ is) (Led.InLoop a os) q.6 inner) back) kept)
    stmt_items o a b k s t (RawFor init c step p) os ds is led h rest =
        let m = h.0 in
        let q = h.5 in
        let s1 = deep.simples_after (inside s) init in
        let s2 = deep.optional_after s1 c in
        let s3 = inside (deep.step_after s2 step) in
        let t1 = tree_simples.simples_after (inside t) init in
        let t3 = inside (tree_stmts.step_after t1 step) in
        let deep_step = option_map (deep.simple_of s2) step in
        let tree_step = option_map (simple_numbered ns) (option_map (tree_simples.simple_of t1) step) in
        let deep_body = deep.stmt_of s3 p in
        let tree_body = stmt_numbered ns (tree_stmts.stmt_of t3 (as_body (hoisted k p))) in
        let loop : deep_items.Loop = deep_items.ForLoop (option_map (deep.expr_of s1.names s1.site) c) deep_step deep_body in
        let there : Loop = ForLoop (option_map (expr_of t1.names) c) tree_step tree_body in
        let kept = ItemsAlike.Outer os b m ds is h.1 rest in
        let back = ItemsAlike.Turning os m loop there ds is (LoopSound.Turns m q.0 q.1 k s1 s2 (deep.step_after s2 step) t1 q.2 c step p h.3 h.4 q.3 q.4 q.5 q.6) kept in
        let ends = step_items text program ns f m k s2 t1 step (m ∷ os) (deep_items.Back loop ∷ ds) (Back there ∷ is) h.4 back in
        let deep_end = deep_items.step_item deep_step ++ deep_items.Back loop ∷ ds in
        let tree_end = items.step_item tree_step ++ Back there ∷ is in
        let inner = body_alike (m ∷ os) m m q.0 q.1 k t3 q.2 p deep_end (deep_items.before deep_body deep_end) tree_end q.3 q.4 q.5
        (λ e. stmt_items (Some m) q.0 q.1 k s3 q.2 p (m ∷ os) deep_end tree_end (Led.InLoop m os) q.6 e) ends in
        parts_items text program ns f a m k (inside s) (inside t) init os (deep_items.begun (option_map (deep.expr_of s1.names s1.site) c) loop (deep_items.before deep_body deep_end) ds) (items.begun (option_map (expr_of t1.names) c) there (items.before tree_body tree_end) is) h.2
        (turn_items text program ns f m k s1 t1 c loop there os ds (deep_items.before deep_body deep_end) is (items.before tree_body tree_end) refl refl h.3 inner kept)
    stmt_items (Some o) a b k s t (RawBreak at) os ds is (Led.InLoop _ ps) h rest = ItemsAlike.Leaving ps o a b ds is h rest
    stmt_items (Some o) a b k s t (RawContinue at) os ds is (Led.InLoop _ ps) h rest = ItemsAlike.Skipping ps o a b ds is h rest
    stmt_items o a b k s t (RawReturn at None) os ds is led h rest = ItemsAlike.GivingNone os a b ds is rest
    stmt_items o a b k s t (RawReturn at (Some e)) os ds is led h rest =
        let own = GiveBack (Some (side_left ns t k e)) in
        subst (λ there. B os a (deep_items.GiveBack (Some (deep.expr_of s.names s.site e)) ∷ ds) there) (sym (items_both ns t (value_before k e) (RawReturn at (Some (value_left k e)) ∷ []) is))
        (ItemsAlike.GivingSome os a b (deep.expr_of s.names s.site e) ds (own ∷ is) is (items_of ns t (value_before k e) (own ∷ is))
        (return_goes text program f ns h.gives h.loop h.is_used a k h.variables e s t is h.scope h.sound)
        (passes_over (stmts_numbered ns (tree_stmts.stmts_of t (raw_in_order (value_before k e)))) (own ∷ is) is (record { leaves = λ n. refl; skips = λ n. refl })) rest)
    stmt_items None a b k s t _ os ds is led h rest = absurd h

    pub stmts_items : (o : Option Agreement) (a c : Agreement) (k : ℕ) (s t : Spot) (ps : RawStmtTrees) (os : List Agreement) (ds : List deep_items.Item) (is : List Item) → Led o os → StmtsSound text program ns f o a c k s t ps → B os c ds is
        → B os a (deep_items.all_before (deep.stmts_of s ps) ds) (items_of ns t (all_hoisted k ps) is)
    stmts_items o a c k s t NoRawStmts os ds is led h rest = ItemsAlike.Outer os c a ds is h rest
    stmts_items o a c k s t (RawThen p ps) os ds is led h rest =
        let later = items_of ns (after t (hoisted k p)) (all_hoisted (k + stmt_names p) ps) is in
        subst (λ there. B os a (deep_items.before (deep.stmt_of s p) (deep_items.all_before (deep.stmts_of (deep.stmt_after s p) ps) ds)) there) (sym (items_both ns t (hoisted k p) (all_hoisted (k + stmt_names p) ps) is))
        (stmt_items o a h.0 k s t p os (deep_items.all_before (deep.stmts_of (deep.stmt_after s p) ps) ds) later led h.1
        (stmts_items o h.0 c (k + stmt_names p) (deep.stmt_after s p) (after t (hoisted k p)) ps os ds is led h.2 rest))

  -- ---- loops

  -- the next turn of a loop
  pub turns_alike : (os : List Agreement) (a : Agreement) (loop : deep_items.Loop) (there : Loop) (ds : List deep_items.Item) (is : List Item) → LoopSound text program ns f a loop there → B os a ds is → B os a (deep_items.turn_before loop ds) (items.turn_before there is)
  turns_alike os a loop there ds is (LoopSound.PlainWhile _ c d k s t place e p quiet condition in_a in_d at body) rest =
      let s1 = inside (counted s (calls_in e)) in
      let back = ItemsAlike.Turning os a loop there ds is (LoopSound.PlainWhile a c d k s t place e p quiet condition in_a in_d at body) rest in
      plain_test os a k s t e loop there ds is quiet condition
      (body_alike (a ∷ os) a a c d k (inside t) place p (deep_items.Back loop ∷ ds) (deep_items.before (deep.stmt_of s1 p) (deep_items.Back loop ∷ ds)) (Back there ∷ is) in_a in_d at
      (λ inner. stmt_items (Some a) c d k s1 place p (a ∷ os) (deep_items.Back loop ∷ ds) (Back there ∷ is) (Led.InLoop a os) body inner) back) rest
  turns_alike os a loop there ds is (LoopSound.CallingWhile _ c d k s t place e p condition in_a in_d at body) rest =
      let s1 = inside (counted s (calls_in e)) in
      let back = ItemsAlike.Turning os a loop there ds is (LoopSound.CallingWhile a c d k s t place e p condition in_a in_d at body) rest in
      calling_test os a k s t e (as_body (hoisted (k + names_in e) p)) loop ds is condition
      (body_alike (a ∷ os) a a c d (k + names_in e) (after_test t k e) place p (deep_items.Back loop ∷ ds) (deep_items.before (deep.stmt_of s1 p) (deep_items.Back loop ∷ ds)) (Back there ∷ is) in_a in_d at
      (λ inner. stmt_items (Some a) c d (k + names_in e) s1 place p (a ∷ os) (deep_items.Back loop ∷ ds) (Back there ∷ is) (Led.InLoop a os) body inner) back) rest
  turns_alike os a loop there ds is (LoopSound.Turns _ d g k s u w t place c step p turn step_ in_a in_g at body) rest =
      let back = ItemsAlike.Turning os a loop there ds is (LoopSound.Turns a d g k s u w t place c step p turn step_ in_a in_g at body) rest in
      let deep_end = deep_items.step_item (option_map (deep.simple_of u) step) ++ deep_items.Back loop ∷ ds in
      let tree_end = items.step_item (option_map (simple_numbered ns) (option_map (tree_simples.simple_of t) step)) ++ Back there ∷ is in
      let ends = step_items text program ns f a k u t step (a ∷ os) (deep_items.Back loop ∷ ds) (Back there ∷ is) step_ back in
      let deep_body = deep.stmt_of (inside w) p in
      let tree_body = stmt_numbered ns (tree_stmts.stmt_of (inside (tree_stmts.step_after t step)) (as_body (hoisted k p))) in
      turn_items text program ns f a k s t c loop there os ds (deep_items.before deep_body deep_end) is (items.before tree_body tree_end) refl refl turn
      (body_alike (a ∷ os) a a d g k (inside (tree_stmts.step_after t step)) place p deep_end (deep_items.before deep_body deep_end) tree_end in_a in_g at
      (λ inner. stmt_items (Some a) d g k (inside w) place p (a ∷ os) deep_end tree_end (Led.InLoop a os) body inner) ends) rest

  -- and what is to do after a `continue`
  pub skips_alike : (os : List Agreement) (a : Agreement) (loop : deep_items.Loop) (there : Loop) (ds : List deep_items.Item) (is : List Item) → LoopSound text program ns f a loop there → B os a ds is → Alike text program (Loops text program ns) f a (deep_items.skipped loop ds) (items.skipped there is)
  skips_alike os a loop there ds is (LoopSound.PlainWhile _ c d k s t place e p quiet condition in_a in_d at body) rest =
      (os, turns_alike os a loop there ds is (LoopSound.PlainWhile a c d k s t place e p quiet condition in_a in_d at body) rest)
  skips_alike os a loop there ds is (LoopSound.CallingWhile _ c d k s t place e p condition in_a in_d at body) rest =
      (os, turns_alike os a loop there ds is (LoopSound.CallingWhile a c d k s t place e p condition in_a in_d at body) rest)
  skips_alike os a loop there ds is (LoopSound.Turns _ d g k s u w t place c step p turn step_ in_a in_g at body) rest =
      (a ∷ os, step_items text program ns f a k u t step (a ∷ os) (deep_items.Back loop ∷ ds) (Back there ∷ is) step_ (ItemsAlike.Turning os a loop there ds is (LoopSound.Turns a d g k s u w t place c step p turn step_ in_a in_g at body) rest))
