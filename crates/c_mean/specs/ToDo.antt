-- What a function's frame has still to do: a list of items, in order. A block, an empty statement and the join of
-- branches aren't items: a statement is represented in the list by its first items (ISO/IEC 9899:2018, 6.8).
use Rattle.std.specs.Prelude.{ℕ, zero, suc, List, [], ◌∷◌, ◌++◌, map, Option, Some, None}
use Rattle.cap_word.specs.declared.traps.TrapKind.{TrapKind}
use Rattle.c_tree.specs.Trees.{ExprTree, RightTree, SimpleTree, StmtTree, StmtTrees, Do, Empty, Block, If, IfElse, While, For, Break, Continue, Return, NoStmts, Then}

-- a loop, which is `while (c) s`, or the turns of `for (..; c; step) s`
pub data Loop : Type 0 where
  WhileLoop : (c : ExprTree) (s : StmtTree) → Loop
  ForLoop : (c : Option ExprTree) (step : Option SimpleTree) (s : StmtTree) → Loop

pub data Item : Type 0 where
  -- a declaration of one name, an assignment or a call
  Simply : (s : SimpleTree) → Item
  -- the test of a branch, and its two sides
  Choose : (c : ExprTree) (s r : StmtTree) → Item
  -- the test of a loop's condition
  Test : (c : ExprTree) (loop : Loop) → Item
  -- a turn of a `for` without a condition begins here; it isn't a step
  Enter : Item
  -- the jump back at the end of a loop's turn
  Back : (loop : Loop) → Item
  -- `break` and `continue`
  Leave : Item
  Skip : Item
  -- `return`
  GiveBack : (v : Option RightTree) → Item
  -- the return of a call's result, which has arrived
  GiveBackWord : (word : ℕ) → Item
  -- the trap of a result that couldn't be stored
  Fail : (trap : TrapKind) → Item

-- the items between the body and the jump back of a loop's turn: the step of a `for`
abbrev pub step_item : Option SimpleTree → List Item
step_item None = []
step_item (Some step) = Simply step ∷ []

abbrev pub loop_step : Loop → List Item
loop_step (WhileLoop c s) = []
loop_step (ForLoop c step s) = step_item step

-- a turn begins with the test or, without one, with the body, whose jump back is then in the list; the mark before it
-- says that this jump back belongs to a loop that hasn't been entered yet
abbrev pub begun : Option ExprTree → Loop → List Item → List Item → List Item
begun None loop body rest = Enter ∷ body
begun (Some c) loop body rest = Test c loop ∷ rest

-- a statement, followed by the rest
abbrev mutual
  pub before : StmtTree → List Item → List Item
  before (Do s) rest = Simply s ∷ rest
  before Empty rest = rest
  before (Block ss) rest = all_before ss rest
  before (If c s) rest = Choose c s Empty ∷ rest
  before (IfElse c s r) rest = Choose c s r ∷ rest
  before (While c s) rest = Test c (WhileLoop c s) ∷ rest
  before (For init c step s) rest = map Simply init ++ begun c (ForLoop c step s) (before s (step_item step ++ Back (ForLoop c step s) ∷ rest)) rest
  before Break rest = Leave ∷ rest
  before Continue rest = Skip ∷ rest
  before (Return v) rest = GiveBack v ∷ rest

  pub all_before : StmtTrees → List Item → List Item
  all_before NoStmts rest = rest
  all_before (Then s ss) rest = before s (all_before ss rest)

-- the body of a loop, up to its end, followed by the rest
abbrev pub body_of : Loop → StmtTree
body_of (WhileLoop c s) = s
body_of (ForLoop c step s) = s

abbrev pub body_before : Loop → List Item → List Item
body_before loop rest = before (body_of loop) (loop_step loop ++ Back loop ∷ rest)

-- a turn of a loop, followed by the rest
abbrev pub turn_before : Loop → List Item → List Item
turn_before (WhileLoop c s) rest = Test c (WhileLoop c s) ∷ rest
turn_before (ForLoop c step s) rest = begun c (ForLoop c step s) (body_before (ForLoop c step s) rest) rest

-- What is still to do after a `break`: what follows the innermost loop. Loops without a condition that follow in its
-- body haven't been entered yet: the jump skips each of them, from its mark to its jump back. The number counts those
-- that have begun and not ended on the way; it is 0 at the jump itself.
abbrev pub after_leave : ℕ → List Item → List Item
after_leave n [] = []
after_leave n (Enter ∷ rest) = after_leave (suc n) rest
after_leave zero (Back loop ∷ rest) = rest
after_leave (suc n) (Back loop ∷ rest) = after_leave n rest
after_leave n (item ∷ rest) = after_leave n rest

-- What is still to do after a `continue`: the next turn of a `while`, or the step and the jump back of a `for`. Loops
-- that haven't been entered yet are skipped as above.
abbrev pub skipped : Loop → List Item → List Item
skipped (WhileLoop c s) rest = turn_before (WhileLoop c s) rest
skipped (ForLoop c step s) rest = step_item step ++ Back (ForLoop c step s) ∷ rest

abbrev pub after_skip : ℕ → List Item → List Item
after_skip n [] = []
after_skip n (Enter ∷ rest) = after_skip (suc n) rest
after_skip zero (Back loop ∷ rest) = skipped loop rest
after_skip (suc n) (Back loop ∷ rest) = after_skip n rest
after_skip n (item ∷ rest) = after_skip n rest
