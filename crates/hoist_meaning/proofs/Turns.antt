-- Loops of both, and the silent steps of the tree at the test of a `while` with a call: `while (1) { .. if (!c) break; .. }`.
use Rattle.hoist_meaning.proofs.Common.{ℕ, zero, suc, ◌+◌, ◌≡◌, refl, sym, ap, subst, ◌∙◌, false, List, [], ◌∷◌, Option, Some, arith, Ok, Err, nat_eq, option_map, nat_tests, flag, Goes, and_then, moves, UnaryOperator, RawExprTree, RawSimpleTree, RawStmtTree, RawIf, RawBreak, ExprTree, Number, Unary, StmtTree, StmtTrees, Block, ProgramTree, as_body, unary_value, Value, value, on_one, Item, Loop, WhileLoop, ForLoop, Choose, Test, Leave, Back, on_value, branched, source_machine, expr_of, Spot, inside, simple_numbered, stmt_numbered, DeepProgram, calls_in, counted, holds_call, names_in, left_of, before, is_false, in_block, hoisted, turn_of, no_left, no_before}
use Rattle.c_tree.specs.Trees as tree
use Rattle.c_mean.specs.ToDo as items
use Rattle.c_mean.proofs.JumpLemmas.{leave_passes, skip_passes}
use Rattle.scope_rules.specs.Simples as tree_simples
use Rattle.scope_rules.specs.Statements as tree_stmts
use Rattle.deep_mean.specs.DeepToDo as deep_items
use Rattle.deep_mean.specs.Naming as deep
use Rattle.hoist_meaning.proofs.Bindings.{Agreement}
use Rattle.hoist_meaning.proofs.Items.{items_of, items_both, after, at}
use Rattle.hoist_meaning.proofs.Ends.{Rows, NoCall, Comes, ends_on}
use Rattle.hoist_meaning.proofs.Frames.{DecideLeaf, DecidesBy}
use Rattle.hoist_meaning.proofs.Alike.{Within, Passes, CondGoes}
use Rattle.hoist_meaning.proofs.Goes.{one_stop, condition_goes}
use Rattle.hoist_meaning.proofs.Sound.{ConditionSound, IsBodyAt, TurnSound, StepSound, in_turn, after_test, StmtSound}

suc_isnt : (word : ℕ) → nat_eq (suc word) 0 ≡ false
suc_isnt word = grind (arith, nat_tests)

no_word : unary_value UnaryOperator.Not 0 ≡ 1
unfolding flag
no_word = refl

some_word : (word : ℕ) → unary_value UnaryOperator.Not (suc word) ≡ 0
unfolding flag
some_word word = ap flag (suc_isnt word)

pub passes_over : (ss : StmtTrees) (rest is : List Item) → Passes rest is → Passes (items.all_before ss rest) is
passes_over ss rest is h = record { leaves = λ n. leave_passes n (Block ss) rest ∙ h.leaves n; skips = λ n. skip_passes n (Block ss) rest ∙ h.skips n }

module _ (text : DeepProgram) (program : ProgramTree) (ns : List ℕ) (f : ℕ) where
  -- the loops of both
  pub data LoopSound : Agreement → deep_items.Loop → Loop → Type 0 where
    PlainWhile : (a c d : Agreement) (k : ℕ) (s t place : Spot) (e : RawExprTree) (p : RawStmtTree) → holds_call e ≡ false → ConditionSound text program ns f a k s t e → Within c a → Within a d → IsBodyAt text program ns f k (inside t) place p
        → StmtSound text program ns f (Some a) c d k (inside (counted s (calls_in e))) place p
        → LoopSound a (deep_items.WhileLoop (deep.expr_of s.names s.site e) (deep.stmt_of (inside (counted s (calls_in e))) p)) (WhileLoop (expr_of t.names e) (stmt_numbered ns (tree_stmts.stmt_of (inside t) (as_body (hoisted k p)))))
    CallingWhile : (a c d : Agreement) (k : ℕ) (s t place : Spot) (e : RawExprTree) (p : RawStmtTree) → ConditionSound text program ns f a k s (in_turn t) e → Within c a → Within a d → IsBodyAt text program ns f (k + names_in e) (after_test t k e) place p
        → StmtSound text program ns f (Some a) c d (k + names_in e) (inside (counted s (calls_in e))) place p
        → LoopSound a (deep_items.WhileLoop (deep.expr_of s.names s.site e) (deep.stmt_of (inside (counted s (calls_in e))) p))
        (WhileLoop (Number 1) (stmt_numbered ns (tree_stmts.stmt_of (inside t) (in_block (turn_of k e (as_body (hoisted (k + names_in e) p)))))))
    Turns : (a d g : Agreement) (k : ℕ) (s u w t place : Spot) (c : Option RawExprTree) (step : Option RawSimpleTree) (p : RawStmtTree) → TurnSound text program ns f a k s t c → StepSound text program ns f a k u t step → Within d a → Within a g
        → IsBodyAt text program ns f k (inside (tree_stmts.step_after t step)) place p → StmtSound text program ns f (Some a) d g k (inside w) place p
        → LoopSound a (deep_items.ForLoop (option_map (deep.expr_of s.names s.site) c) (option_map (deep.simple_of u) step) (deep.stmt_of (inside w) p))
        (ForLoop (option_map (expr_of t.names) c) (option_map (simple_numbered ns) (option_map (tree_simples.simple_of t) step)) (stmt_numbered ns (tree_stmts.stmt_of (inside (tree_stmts.step_after t step)) (as_body (hoisted k p)))))

  -- ---- a test of a condition without a call

  test_decides : (txt globals names : Rows) (c : ExprTree) (loop : Loop) (is : List Item) (outcome : Value) → value names globals c ≡ outcome → DecidesBy text program f txt (Test c loop ∷ is) (items.body_before loop is) is globals names outcome
  test_decides txt globals names c loop is (Ok zero) e = λ below. (
    0,
    ap (λ v. and_then (on_value (at program f below globals names is) v (branched (at program f below globals names is) (items.body_before loop is) is)) (moves (source_machine program) 0)) e,
  )
  test_decides txt globals names c loop is (Ok (suc word)) e = λ below. (
    0,
    ap (λ v. and_then (on_value (at program f below globals names is) v (branched (at program f below globals names is) (items.body_before loop is) is)) (moves (source_machine program) 0)) e,
  )
  test_decides txt globals names c loop is (Err trap) e =
      one_stop text program f txt globals names (Test c loop ∷ is) trap (λ below. ap (λ v. on_value (at program f below globals names is) v (branched (at program f below globals names is) (items.body_before loop is) is)) e)

  pub test_goes : (a : Agreement) (k : ℕ) (e : RawExprTree) (s t : Spot) (loop : Loop) (is : List Item) → holds_call e ≡ false → ConditionSound text program ns f a k s t e
      → CondGoes text program f a (deep.expr_of s.names s.site e) (Test (expr_of t.names e) loop ∷ is) (items.body_before loop is) is (Test (expr_of t.names e) loop ∷ is)
  test_goes a k e s t loop is quiet h =
      let rest : List Item = Test (expr_of t.names e) loop ∷ is in
      subst (λ ss. CondGoes text program f a (deep.expr_of s.names s.site e) rest (items.body_before loop is) is (items_of ns t ss rest)) (no_before k e quiet)
      (condition_goes text program f ns h.gives h.loop a k h.variables e s t rest (items.body_before loop is) is h.scope h.sound
      (λ txt globals names outcome is_value.
      let same : expr_of (after t (before k e)).names (left_of k e) ≡ expr_of t.names e = (λ i. expr_of (after t (no_before k e quiet i)).names (no_left k e quiet i)) in
      test_decides txt globals names (expr_of t.names e) loop is outcome (ap (value names globals) (sym same) ∙ is_value)))

  -- ---- `if (!c) break;`

  leaves_or : (txt globals names : Rows) (c : ExprTree) (one is : List Item) (outcome : Value) → items.after_leave 0 one ≡ is → value names globals c ≡ outcome
      → DecidesBy text program f txt (Choose (Unary UnaryOperator.Not c) tree.Break tree.Empty ∷ one) one is globals names outcome
  leaves_or txt globals names c one is (Ok zero) jump e = λ below. (
    1,
    ap (λ v. and_then (on_value (at program f below globals names one) v (branched (at program f below globals names one) (Leave ∷ one) one)) (moves (source_machine program) 1)) (ap (on_one (unary_value UnaryOperator.Not)) e ∙ ap Ok no_word)
        ∙ ap (λ there. Goes (at program f below globals names there)) jump,
  )
  leaves_or txt globals names c one is (Ok (suc word)) jump e = λ below. (
    0,
    ap (λ v. and_then (on_value (at program f below globals names one) v (branched (at program f below globals names one) (Leave ∷ one) one)) (moves (source_machine program) 0)) (ap (on_one (unary_value UnaryOperator.Not)) e ∙ ap Ok (some_word word)),
  )
  leaves_or txt globals names c one is (Err trap) jump e =
      one_stop text program f txt globals names (Choose (Unary UnaryOperator.Not c) tree.Break tree.Empty ∷ one) trap
      (λ below. ap (λ v. on_value (at program f below globals names one) v (branched (at program f below globals names one) (Leave ∷ one) one)) (ap (on_one (unary_value UnaryOperator.Not)) e))

  -- what stands for the body of the loop, without the test
  abbrev pub turn_body : ℕ → Spot → RawExprTree → RawStmtTree → StmtTree
  turn_body k t e body = stmt_numbered ns (tree_stmts.stmt_of (after_test t k e) body)

  abbrev pub calling_loop : ℕ → Spot → RawExprTree → RawStmtTree → Loop
  calling_loop k t e body = WhileLoop (Number 1) (stmt_numbered ns (tree_stmts.stmt_of (inside t) (in_block (turn_of k e body))))

  pub calling_goes : (a : Agreement) (k : ℕ) (e : RawExprTree) (s t : Spot) (body : RawStmtTree) (is : List Item) → ConditionSound text program ns f a k s (in_turn t) e
      → CondGoes text program f a (deep.expr_of s.names s.site e)
      (Choose (Unary UnaryOperator.Not (expr_of (after (in_turn t) (before k e)).names (left_of k e))) tree.Break tree.Empty ∷ items.before (turn_body k t e body) (Back (calling_loop k t e body) ∷ is))
      (items.before (turn_body k t e body) (Back (calling_loop k t e body) ∷ is)) is (Test (Number 1) (calling_loop k t e body) ∷ is)
  calling_goes a k e s t body is h = λ globals txt names words.
      let back : List Item = Back (calling_loop k t e body) ∷ is in
      let one : List Item = items.before (turn_body k t e body) back in
      let c : ExprTree = expr_of (after (in_turn t) (before k e)).names (left_of k e) in
      let rest : List Item = Choose (Unary UnaryOperator.Not c) tree.Break tree.Empty ∷ one in
      let split : items.body_before (calling_loop k t e body) is ≡ items_of ns (in_turn t) (before k e) rest = items_both ns (in_turn t) (before k e) (RawIf (is_false (left_of k e)) (RawBreak 0) ∷ body ∷ []) back in
      let enters : Comes program f txt globals names (Test (Number 1) (calling_loop k t e body) ∷ is) names (items_of ns (in_turn t) (before k e) rest) =
      record { leads = λ below. (1, ap (λ there. Goes (at program f below globals names there)) split) } in
      ends_on program f txt false (DecideLeaf text program f a txt rest one is) NoCall rest names (Test (Number 1) (calling_loop k t e body) ∷ is) enters
      (condition_goes text program f ns h.gives h.loop a k h.variables e s (in_turn t) rest one is h.scope h.sound
      (λ txt' globals' names' outcome e'. leaves_or txt' globals' names' c one is outcome (leave_passes 0 (turn_body k t e body) back) e') globals txt names words)
