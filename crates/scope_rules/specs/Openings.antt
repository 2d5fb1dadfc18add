-- What begins a block, or a statement with a body, and what it becomes with its body.
use Rattle.std.specs.Prelude.{Bool, true, List, [], ◌∷◌, map, reverse, Option, option_map}
use Rattle.c_tree.specs.RawTrees.{RawExprTree, RawSimpleTree, RawStmtTree, RawBlock, RawIf, RawWhile, RawFor}
use Rattle.c_tree.specs.RawViews.{raw_expr_tree, raw_simple_tree, raw_in_order, as_body}
use Rattle.c_tree.specs.Trees.{ExprTree, SimpleTree, StmtTree, Empty, Block, If, IfElse, While, For}
use Rattle.c_tree.specs.Views.{expr_tree, simple_tree, stmt_tree, in_order}
use Rattle.scope_rules.specs.declared.faults.Fault.{Fault}
use Rattle.scope_rules.specs.declared.openings.Opening.{Opening}
use Rattle.scope_rules.specs.declared.openings.Head.{Head}
use Rattle.scope_rules.specs.declared.openings.Open.{Open}
use Rattle.scope_rules.specs.declared.statements.Scope.{Scope}
use Rattle.scope_rules.specs.Expressions.{expr_faults, expr_of}
use Rattle.scope_rules.specs.Places.{Spot}
use Rattle.scope_rules.specs.Simples.{simples_of, simples_after, simple_of}
use Rattle.scope_rules.specs.Statements.{inside, step_after, parts_faults}

-- `{`, `if (c)`, `while (c)`, and a for with its parts
pub data OpeningTree : Type 0 where
  OpenBlock : OpeningTree
  OpenIf : RawExprTree → OpeningTree
  OpenWhile : RawExprTree → OpeningTree
  OpenFor : List RawSimpleTree → Option RawExprTree → Option RawSimpleTree → OpeningTree

abbrev pub opening_tree : Opening → OpeningTree
opening_tree Opening.Block = OpenBlock
opening_tree (Opening.If c) = OpenIf (raw_expr_tree c.now)
opening_tree (Opening.While c) = OpenWhile (raw_expr_tree c.now)
opening_tree (Opening.For p) = OpenFor (map raw_simple_tree p.now.init.items) (option_map raw_expr_tree p.now.condition) (option_map raw_simple_tree p.now.step)

-- the block, or the statement, with these statements in its body
abbrev pub whole : OpeningTree → List RawStmtTree → RawStmtTree
whole OpenBlock ss = RawBlock (raw_in_order ss)
whole (OpenIf c) ss = RawIf c (as_body ss)
whole (OpenWhile c) ss = RawWhile c (as_body ss)
whole (OpenFor init c step) ss = RawFor init c step (as_body ss)

-- the same with numbers in place of names; an else has the body before it
pub data HeadTree : Type 0 where
  BlockHead : HeadTree
  IfHead : ExprTree → HeadTree
  ElseHead : ExprTree → StmtTree → HeadTree
  WhileHead : ExprTree → HeadTree
  ForHead : List SimpleTree → Option ExprTree → Option SimpleTree → HeadTree

abbrev pub head_tree : Head → HeadTree
head_tree Head.Block = BlockHead
head_tree (Head.If c) = IfHead (expr_tree c)
head_tree (Head.Else c s) = ElseHead (expr_tree c) (stmt_tree s.value)
head_tree (Head.While c) = WhileHead (expr_tree c)
head_tree (Head.For p) = ForHead (map simple_tree p.value.init.items) (option_map expr_tree p.value.condition) (option_map simple_tree p.value.step)

abbrev pub body : List StmtTree → StmtTree
body [] = Empty
body (s ∷ []) = s
body (s ∷ t ∷ ss) = Block (in_order (s ∷ t ∷ ss))

abbrev pub with_body : HeadTree → List StmtTree → StmtTree
with_body BlockHead ss = Block (in_order ss)
with_body (IfHead c) ss = If c (body ss)
with_body (ElseHead c s) ss = IfElse c s (body ss)
with_body (WhileHead c) ss = While c (body ss)
with_body (ForHead init c step) ss = For init c step (body ss)

-- what begins there with numbers in place of names; the rules that it breaks; the start of the body; and whether the
-- body is in a loop
abbrev pub head_of : OpeningTree → Spot → HeadTree
head_of OpenBlock s = BlockHead
head_of (OpenIf c) s = IfHead (expr_of s.names c)
head_of (OpenWhile c) s = WhileHead (expr_of s.names c)
head_of (OpenFor init c step) s =
    ForHead (simples_of (inside s) init) (option_map (expr_of (simples_after (inside s) init).names) c) (option_map (simple_of (simples_after (inside s) init)) step)

abbrev pub opening_faults : OpeningTree → Spot → List Fault
opening_faults OpenBlock s = []
opening_faults (OpenIf c) s = expr_faults s.names c
opening_faults (OpenWhile c) s = expr_faults s.names c
opening_faults (OpenFor init c step) s = parts_faults (inside s) init c step

abbrev pub body_start : OpeningTree → Spot → Spot
body_start OpenBlock s = inside s
body_start (OpenIf c) s = inside s
body_start (OpenWhile c) s = inside s
body_start (OpenFor init c step) s = inside (step_after (simples_after (inside s) init) step)

abbrev pub is_in_loop : OpeningTree → Bool → Bool
is_in_loop OpenBlock loops = loops
is_in_loop (OpenIf c) loops = loops
is_in_loop (OpenWhile c) loops = true
is_in_loop (OpenFor init c step) loops = true

-- a block, or a statement with a body, that isn't at its end: what began it, the scope before it, whether it is in a
-- loop, and the statements before it
pub record OpenTree : Type 0 where
  pub head : HeadTree
  pub scope : Scope
  pub loops : Bool
  pub before : List StmtTree

abbrev pub open_tree : Open → OpenTree
open_tree o = record { head = head_tree o.head; scope = o.scope; loops = o.loops; before = map stmt_tree o.before.items }

-- the last that was begun goes first
abbrev pub open_trees : List Open → List OpenTree
open_trees os = map open_tree (reverse os)
