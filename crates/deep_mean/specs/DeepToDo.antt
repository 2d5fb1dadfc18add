-- What a deep frame has still to do: the items of `c_mean`, over trees with calls inside expressions, and an expression
-- in evaluation, in which the result of its call has arrived (ISO/IEC 9899:2018, 6.8).
use Rattle.std.specs.Prelude.{ℕ, zero, suc, List, [], ◌∷◌, ◌++◌, map, Option, Some, None}
use Rattle.cap_word.specs.declared.traps.TrapKind.{TrapKind}
use Rattle.c_mean.specs.Frames.{Place}
use Rattle.deep_mean.specs.DeepTrees.{DeepExpr, DeepSimple, DeepStmt, DeepStmts, Do, Empty, Block, If, IfElse, While, For, Break, Continue, Return, NoStmts, Then}
use Rattle.deep_mean.specs.Evaluation.{Around}

pub data Loop : Type 0 where
  WhileLoop : (c : DeepExpr) (s : DeepStmt) → Loop
  ForLoop : (c : Option DeepExpr) (step : Option DeepSimple) (s : DeepStmt) → Loop

-- the use of the value of a statement's expression: it goes to a place; it is the index of an element that is assigned,
-- whose right side is still to be evaluated; it decides a branch or a loop; or it is returned
pub data Use : Type 0 where
  Stores : (place : Place) → Use
  IndexesLocal : (a : ℕ) (v : DeepExpr) → Use
  IndexesGlobal : (a : ℕ) (v : DeepExpr) → Use
  Branches : (s r : DeepStmt) → Use
  Tests : (loop : Loop) → Use
  Returns : Use

pub data Item : Type 0 where
  Simply : (s : DeepSimple) → Item
  Choose : (c : DeepExpr) (s r : DeepStmt) → Item
  Test : (c : DeepExpr) (loop : Loop) → Item
  -- a turn of a `for` without a condition begins here; it isn't a step
  Enter : Item
  Back : (loop : Loop) → Item
  Leave : Item
  Skip : Item
  GiveBack : (v : Option DeepExpr) → Item
  -- the trap of a result that couldn't be stored
  Fail : (trap : TrapKind) → Item
  -- an expression in evaluation: the constructs around the call with this result, and the use of the expression's value
  GoOn : (around : List Around) (word : ℕ) (use_ : Use) → Item

abbrev pub step_item : Option DeepSimple → List Item
step_item None = []
step_item (Some step) = Simply step ∷ []

abbrev pub loop_step : Loop → List Item
loop_step (WhileLoop c s) = []
loop_step (ForLoop c step s) = step_item step

abbrev pub begun : Option DeepExpr → Loop → List Item → List Item → List Item
begun None loop body rest = Enter ∷ body
begun (Some c) loop body rest = Test c loop ∷ rest

-- a statement, followed by the rest
abbrev mutual
  pub before : DeepStmt → List Item → List Item
  before (Do s) rest = Simply s ∷ rest
  before Empty rest = rest
  before (Block ss) rest = all_before ss rest
  before (If c s) rest = Choose c s Empty ∷ rest
  before (IfElse c s r) rest = Choose c s r ∷ rest
  before (While c s) rest = Test c (WhileLoop c s) ∷ rest
  before (For init c step s) rest = map Simply init ++ begun c (ForLoop c step s) (before s (step_item step ++ Back (ForLoop c step s) ∷ rest)) rest
  before Break rest = Leave ∷ rest
  before Continue rest = Skip ∷ rest
  before (Return v) rest = GiveBack v ∷ rest

  pub all_before : DeepStmts → List Item → List Item
  all_before NoStmts rest = rest
  all_before (Then s ss) rest = before s (all_before ss rest)

abbrev pub body_of : Loop → DeepStmt
body_of (WhileLoop c s) = s
body_of (ForLoop c step s) = s

abbrev pub body_before : Loop → List Item → List Item
body_before loop rest = before (body_of loop) (loop_step loop ++ Back loop ∷ rest)

abbrev pub turn_before : Loop → List Item → List Item
turn_before (WhileLoop c s) rest = Test c (WhileLoop c s) ∷ rest
turn_before (ForLoop c step s) rest = begun c (ForLoop c step s) (body_before (ForLoop c step s) rest) rest

-- what is still to do after a `break`: loops without a condition that follow in the body haven't been entered yet and
-- are skipped
abbrev pub after_leave : ℕ → List Item → List Item
after_leave n [] = []
after_leave n (Enter ∷ rest) = after_leave (suc n) rest
after_leave zero (Back loop ∷ rest) = rest
after_leave (suc n) (Back loop ∷ rest) = after_leave n rest
after_leave n (item ∷ rest) = after_leave n rest

abbrev pub skipped : Loop → List Item → List Item
skipped (WhileLoop c s) rest = turn_before (WhileLoop c s) rest
skipped (ForLoop c step s) rest = step_item step ++ Back (ForLoop c step s) ∷ rest

-- what is still to do after a `continue`
abbrev pub after_skip : ℕ → List Item → List Item
after_skip n [] = []
after_skip n (Enter ∷ rest) = after_skip (suc n) rest
after_skip zero (Back loop ∷ rest) = skipped loop rest
after_skip (suc n) (Back loop ∷ rest) = after_skip n rest
after_skip n (item ∷ rest) = after_skip n rest
