-- What a frame has still to do: the items of its stack as those of the source, and the conditions on
-- each.
use Rattle.std.specs.Prelude.{◌≡◌, ℕ, ◌<◌, Bool, true, false, List, [], ◌∷◌, length, slice_index_or, Option, Some, None}
use Rattle.std.specs.List.{AllByRecursion}
use Rattle.c_tree.specs.Trees.{ExprTree, Number, SimpleTree, DeclareScalar, StmtTree, Do, Empty, Block, If, IfElse, While, For, Break, Continue, Return}
use Rattle.c_tree.specs.Views.{stmt_tree}
use Rattle.c_tree.specs.WellScoped.{Context, IsStmtScoped}
use Rattle.c_mean.specs.ToDo as todo
use Rattle.c_mean.specs.ToDo.{Loop, WhileLoop, ForLoop}
use Rattle.source_items.specs.declared.items.Item.{Item}
use Rattle.source_items.specs.declared.items.Part.{Part}
use Rattle.source_items.specs.declared.items.Part.TheVariants as part

-- ---- parts of statements

-- a statement that is one item
abbrev pub whole_item : StmtTree → todo.Item
whole_item (Do s) = todo.Simply s
whole_item Empty = todo.Enter
whole_item (Block ss) = todo.Enter
whole_item (If c s) = todo.Choose c s Empty
whole_item (IfElse c s r) = todo.Choose c s r
whole_item (While c s) = todo.Test c (WhileLoop c s)
whole_item (For init c step s) = todo.Enter
whole_item Break = todo.Leave
whole_item Continue = todo.Skip
whole_item (Return v) = todo.GiveBack v

-- the loop that a statement is
abbrev pub loop_of : StmtTree → Loop
loop_of (While c s) = WhileLoop c s
loop_of (For init c step s) = ForLoop c step s
loop_of _ = WhileLoop (Number 0) Empty

-- the first part of a `for`
abbrev pub start_of : StmtTree → List SimpleTree
start_of (For init c step s) = init
start_of _ = []

abbrev pub condition_of : StmtTree → Option ExprTree
condition_of (For init c step s) = c
condition_of _ = None

abbrev pub step_of : StmtTree → Option SimpleTree
step_of (For init c step s) = step
step_of _ = None

abbrev pub body_of : StmtTree → Option StmtTree
body_of (While c s) = Some s
body_of (For init c step s) = Some s
body_of _ = None

abbrev pub is_for : StmtTree → Bool
is_for (For init c step s) = true
is_for _ = false

-- the test of a loop, and its step
abbrev pub test_item : Option ExprTree → Loop → todo.Item
test_item None loop = todo.Enter
test_item (Some c) loop = todo.Test c loop

abbrev pub step_item : Option SimpleTree → todo.Item
step_item None = todo.Enter
step_item (Some s) = todo.Simply s

abbrev pub part_item : Part → StmtTree → todo.Item
part_item part.Whole s = whole_item s
part_item (part.Start number) s = todo.Simply (slice_index_or (start_of s) number (DeclareScalar 0))
part_item part.Test s = test_item (condition_of s) (loop_of s)
part_item part.Enter s = todo.Enter
part_item part.Step s = step_item (step_of s)
part_item part.Back s = todo.Back (loop_of s)

abbrev pub item_of : Item → todo.Item
item_of item = part_item item.part (stmt_tree item.stmt.now)

-- ---- the stack

-- the items of a stack, from the bottom up, before others: the last is to be done first
abbrev pub stacked : List Item → List todo.Item → List todo.Item
stacked [] rest = rest
stacked (item ∷ items) rest = stacked items (item_of item ∷ rest)

abbrev pub to_do : List Item → List todo.Item
to_do items = stacked items []

-- what is still to do from the first step on: marks of turns before it aren't steps
abbrev pub entered : List todo.Item → List todo.Item
entered [] = []
entered (todo.Enter ∷ rest) = entered rest
entered (item ∷ rest) = item ∷ rest

-- ---- the conditions on each item

-- the statement has that part
abbrev pub IsWhole : StmtTree → Type 0
IsWhole (Do s) = Unit {0}
IsWhole Empty = ⊥
IsWhole (Block ss) = ⊥
IsWhole (If c s) = Unit {0}
IsWhole (IfElse c s r) = Unit {0}
IsWhole (While c s) = Unit {0}
IsWhole (For init c step s) = ⊥
IsWhole Break = Unit {0}
IsWhole Continue = Unit {0}
IsWhole (Return v) = Unit {0}

abbrev pub IsLoop : StmtTree → Type 0
IsLoop (While c s) = Unit {0}
IsLoop (For init c step s) = Unit {0}
IsLoop _ = ⊥

abbrev pub IsGiven : {A : Type 0} → Option A → Type 0
IsGiven None = ⊥
IsGiven (Some a) = Unit {0}

abbrev pub HasPart : Part → StmtTree → Type 0
HasPart part.Whole s = IsWhole s
HasPart (part.Start number) s = number < length (start_of s)
HasPart part.Test s = IsGiven (condition_of s)
HasPart part.Enter s = Unit {0}
HasPart part.Step s = IsGiven (step_of s)
HasPart part.Back s = IsLoop s

-- the statement is well scoped in its function, whatever surrounds it
pub record IsScoped (c : Context) (s : StmtTree) : Type 0 where
  pub loop : Bool
  pub scope : List ℕ
  pub scoped : IsStmtScoped c loop scope s

pub record IsItem (c : Context) (item : Item) : Type 0 where
  pub has : HasPart item.part (stmt_tree item.stmt.now)
  pub scoped : IsScoped c (stmt_tree item.stmt.now)

abbrev pub AreItems : Context → List Item → Type 0
AreItems c items = AllByRecursion (IsItem c) items

-- a stack after the removal of everything up to and including the jump back of a loop's turn
pub record IsTaken (c : Context) (old new : List Item) (loop : StmtTree) : Type 0 where
  pub is_loop : IsLoop loop
  pub scoped : IsScoped c loop
  pub left : to_do new ≡ todo.after_leave 0 (to_do old)
  pub skipped : todo.after_skip 0 (to_do old) ≡ todo.skipped (loop_of loop) (to_do new)
  pub fits : AreItems c new

-- the same during the removal, when this number of turns has begun and not ended
pub record IsPassing (c : Context) (old now : List Item) (begun : ℕ) : Type 0 where
  pub leave : todo.after_leave begun (to_do now) ≡ todo.after_leave 0 (to_do old)
  pub skip : todo.after_skip begun (to_do now) ≡ todo.after_skip 0 (to_do old)
  pub fits : AreItems c now
