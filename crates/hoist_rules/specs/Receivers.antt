-- The statements of a function so far, as their receiver has taken them.
use Rattle.std.specs.Prelude.{ℕ, List, [], ◌∷◌, ◌++◌, map, reverse, option_map}
use Rattle.c_tree.specs.RawTrees.{RawExprTree, RawStmtTree, RawIfElse}
use Rattle.c_tree.specs.RawViews.{raw_expr_tree, raw_simple_tree, raw_stmt_tree, raw_in_order, as_body}
use Rattle.grammar_laws.specs.Nested.{is_call}
use Rattle.grammar_laws.specs.Places.{expr_places, optional_places, simples_places, step_places, stmts_places}
use Rattle.scope_rules.specs.Making.{Making, made_by, with_statements, opened, switched, closed}
use Rattle.scope_rules.specs.Openings.{OpeningTree, OpenBlock, OpenIf, OpenWhile, OpenFor, whole}
use Rattle.hoist_rules.specs.declared.receivers.Resolving.{Resolving}
use Rattle.hoist_rules.specs.declared.keeping.Beginning.{Beginning}
use Rattle.hoist_rules.specs.declared.keeping.Unfinished.{Unfinished}
use Rattle.hoist_rules.specs.declared.keeping.Keeping.{Keeping}

-- what begins a block, or a statement with a body; an else has the body before it
pub data BeginningTree : Type 0 where
  Opened : OpeningTree → BeginningTree
  OpenElse : RawExprTree → RawStmtTree → BeginningTree

-- a block, or a statement with a body, that isn't at its end: what began it, and the statements before it
pub record UnfinishedTree : Type 0 where
  pub beginning : BeginningTree
  pub before : List RawStmtTree

-- a definition so far, and the places of the calls before it and in it; or the statements so far of what was begun last,
-- and all that isn't at its end, the last that was begun first
pub data Received : Type 0 where
  Resolved : Making → List ℕ → Received
  Kept : List RawStmtTree → List UnfinishedTree → Received

abbrev pub resolved : Resolving → Received
resolved r = Resolved (made_by r.resolver) r.places.items

abbrev pub beginning_tree : Beginning → BeginningTree
beginning_tree Beginning.Block = Opened OpenBlock
beginning_tree (Beginning.If c) = Opened (OpenIf (raw_expr_tree c))
beginning_tree (Beginning.Else c s) = OpenElse (raw_expr_tree c) (raw_stmt_tree s.value)
beginning_tree (Beginning.While c) = Opened (OpenWhile (raw_expr_tree c))
beginning_tree (Beginning.For p) = Opened (OpenFor (map raw_simple_tree p.value.init.items) (option_map raw_expr_tree p.value.condition) (option_map raw_simple_tree p.value.step))

abbrev pub unfinished_tree : Unfinished → UnfinishedTree
unfinished_tree u = record { beginning = beginning_tree u.beginning; before = map raw_stmt_tree u.before.items }

abbrev pub kept : Keeping → Received
kept k = Kept (map raw_stmt_tree k.statements.items) (map unfinished_tree (reverse k.unfinished.items))

-- the statements that are kept
abbrev pub kept_statements : Received → List RawStmtTree
kept_statements (Resolved making places) = []
kept_statements (Kept ss us) = ss

-- the block, or the statement, with these statements in its body
abbrev pub whole_of : BeginningTree → List RawStmtTree → RawStmtTree
whole_of (Opened o) ss = whole o ss
whole_of (OpenElse c s) ss = RawIfElse c s (as_body ss)

-- after more statements
abbrev pub then_received : Received → List RawStmtTree → Received
then_received (Resolved making places) ss = Resolved (with_statements making ss) (places ++ stmts_places is_call (raw_in_order ss))
then_received (Kept before us) ss = Kept (before ++ ss) us

-- the places of the calls in what begins a block, or a statement with a body
abbrev pub opening_places : OpeningTree → List ℕ
opening_places OpenBlock = []
opening_places (OpenIf c) = expr_places is_call c
opening_places (OpenWhile c) = expr_places is_call c
opening_places (OpenFor init c step) = simples_places is_call init ++ (optional_places is_call c ++ step_places is_call step)

-- the else of the if that was begun last; nothing changes if no if was
abbrev pub else_by : UnfinishedTree → BeginningTree → List UnfinishedTree → List RawStmtTree → Received
else_by u (Opened (OpenIf c)) us ss = Kept [] (record u { beginning = OpenElse c (as_body ss) } ∷ us)
else_by u (Opened OpenBlock) us ss = Kept ss (u ∷ us)
else_by u (Opened (OpenWhile c)) us ss = Kept ss (u ∷ us)
else_by u (Opened (OpenFor init c step)) us ss = Kept ss (u ∷ us)
else_by u (OpenElse c s) us ss = Kept ss (u ∷ us)

abbrev pub kept_else : List RawStmtTree → List UnfinishedTree → Received
kept_else ss [] = Kept ss []
kept_else ss (u ∷ us) = else_by u u.beginning us ss

-- the end of what was begun last; nothing changes if nothing was
abbrev pub kept_close : List RawStmtTree → List UnfinishedTree → Received
kept_close ss [] = Kept ss []
kept_close ss (u ∷ us) = Kept (u.before ++ whole_of u.beginning ss ∷ []) us

-- the same, as terms that rules rewrite: the statements so far, followed by more; by what begins a block, or a statement
-- with a body; by the start of an else; and by the end of what was begun last
unfoldable pub then_all : Received → List RawStmtTree → Received
then_all r ss = then_received r ss

abbrev pub open_received : OpeningTree → Received → Received
open_received o (Resolved making places) = Resolved (opened o making) (places ++ opening_places o)
open_received o (Kept ss us) = Kept [] (record { beginning = Opened o; before = ss } ∷ us)

unfoldable pub then_open : OpeningTree → Received → Received
then_open o r = open_received o r

abbrev pub else_received : Received → Received
else_received (Resolved making places) = Resolved (switched making) places
else_received (Kept ss us) = kept_else ss us

unfoldable pub then_else : Received → Received
then_else r = else_received r

abbrev pub close_received : Received → Received
close_received (Resolved making places) = Resolved (closed making) places
close_received (Kept ss us) = kept_close ss us

unfoldable pub then_close : Received → Received
then_close r = close_received r
