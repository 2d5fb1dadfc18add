-- A definition that is resolved statement by statement.
use Rattle.std.specs.Prelude.{ℕ, ◌≡◌, ◌≤◌, ◌-◌, drop, Bool, true, false, List, [], ◌∷◌, map, length, Option, None}
use Rattle.c_tree.specs.RawTrees.{NameTree, RawStmtTree, RawItemTree}
use Rattle.c_tree.specs.RawViews.{raw_in_order}
use Rattle.c_tree.specs.Trees.{StmtTree}
use Rattle.c_tree.specs.Views.{stmt_tree}
use Rattle.c_tree.specs.Temporaries.{capped}
use Rattle.scope_rules.specs.declared.faults.Fault.{Fault}
use Rattle.scope_rules.specs.declared.items.Items.{Items}
use Rattle.scope_rules.specs.declared.functions.Begun.{Begun}
use Rattle.scope_rules.specs.declared.resolver.FunctionResolver.{FunctionResolver}
use Rattle.scope_rules.specs.declared.statements.Scope.{Scope}
use Rattle.scope_rules.specs.Names.{Binding}
use Rattle.scope_rules.specs.Faults.{least_of}
use Rattle.scope_rules.specs.Limits.{most_locals}
use Rattle.scope_rules.specs.Openings.{OpeningTree, OpenTree, HeadTree, BlockHead, IfHead, ElseHead, WhileHead, ForHead, open_trees, head_of, opening_faults, is_in_loop, body_start as opening_start, body as body_tree, with_body}
use Rattle.scope_rules.specs.Places.{Spot}
use Rattle.scope_rules.specs.Statements.{inside, stmt_of, stmt_after, stmt_faults, stmts_after, stmts_faults}
use Rattle.scope_rules.specs.Items.{Sofar, definitions, at_start, items_after, items_faults, with_function, body_spot}
use Rattle.scope_rules.specs.Heads.{head_faults}
use Rattle.scope_rules.specs.Kept.{kept_with}
use Rattle.scope_rules.specs.ItemViews.{sofar_of}

-- the items before it, with the scope after its statements so far; the least fault so far; its head; and its statements
-- so far, which are kept up to the limit of calls
pub record Making : Type 0 where
  pub definitions : List Binding
  pub sofar : Sofar
  pub least : Option Fault
  pub locals : ℕ
  pub name : List ℕ
  pub gives : Bool
  pub params : ℕ
  pub scope : Scope
  pub body : List StmtTree
  pub loops : Bool
  pub unfinished : List OpenTree

abbrev pub making_of : Items → Begun → Making
making_of w b =
    record { definitions = w.definitions; sofar = sofar_of w; least = w.place.least; locals = w.locals; name = b.name.items; gives = b.gives; params = b.params; scope = b.scope; body = map stmt_tree b.body.items; loops = b.loops; unfinished = open_trees b.unfinished.items }

abbrev pub made_by : FunctionResolver → Making
made_by r = making_of r.parts.value.items r.parts.value.begun

-- after one more statement of the body
abbrev pub with_statement : Making → RawStmtTree → Making
with_statement m t = record m {
  sofar = record m.sofar { spot = stmt_after m.sofar.spot t };
  least = least_of m.least (stmt_faults m.gives m.loops m.sofar.spot t);
  body = kept_with (stmt_after m.sofar.spot t).site m.body (stmt_of m.sofar.spot t);
}

-- after what begins a block, or a statement with a body
abbrev pub opened : OpeningTree → Making → Making
opened o m = record m {
  sofar = record m.sofar { spot = opening_start o m.sofar.spot };
  least = least_of m.least (opening_faults o m.sofar.spot);
  body = [];
  loops = is_in_loop o m.loops;
  unfinished = record { head = head_of o m.sofar.spot; scope = record { outer = m.sofar.spot.outer; count = length m.sofar.spot.names }; loops = m.loops; before = m.body } ∷ m.unfinished;
}

-- the scope before a body, after it
abbrev pub back : Scope → Spot → Spot
back scope s = record s { names = drop (length s.names - scope.count) s.names; outer = scope.outer }

-- after the end of what was begun last
abbrev pub closed_by : List OpenTree → Making → Making
closed_by [] m = m
closed_by (o ∷ os) m = record m {
  sofar = record m.sofar { spot = back o.scope m.sofar.spot };
  body = kept_with m.sofar.spot.site o.before (with_body o.head m.body);
  loops = o.loops;
  unfinished = os;
}

abbrev pub closed : Making → Making
closed m = closed_by m.unfinished m

-- after the end of everything that was begun
abbrev pub closed_each : List OpenTree → Making → Making
closed_each [] m = m
closed_each (o ∷ os) m = closed_each os (closed_by (o ∷ os) m)

abbrev pub all_closed : Making → Making
all_closed m = closed_each m.unfinished m

-- after the start of an else, if an if was begun last
abbrev pub switched_by : OpenTree → HeadTree → List OpenTree → Making → Making
switched_by o (IfHead c) os m = record m {
  sofar = record m.sofar { spot = inside (back o.scope m.sofar.spot) };
  body = [];
  unfinished = record o { head = ElseHead c (body_tree m.body); scope = record { outer = o.scope.outer; count = length (back o.scope m.sofar.spot).names } } ∷ os;
}
switched_by o BlockHead os m = m
switched_by o (ElseHead c s) os m = m
switched_by o (WhileHead c) os m = m
switched_by o (ForHead init c step) os m = m

abbrev pub switched_in : List OpenTree → Making → Making
switched_in [] m = m
switched_in (o ∷ os) m = switched_by o o.head os m

abbrev pub switched : Making → Making
switched m = switched_in m.unfinished m

-- after more statements
abbrev pub with_statements : Making → List RawStmtTree → Making
with_statements m [] = m
with_statements m (t ∷ ts) = with_statements (with_statement m t) ts

-- statements with numbers in place of names, as a list
abbrev pub stmts_list : Spot → List RawStmtTree → List StmtTree
stmts_list s [] = []
stmts_list s (p ∷ ps) = stmt_of s p ∷ stmts_list (stmt_after s p) ps

-- the items read before a definition, of a source that defines the same functions as `all`; the scope of its body
abbrev pub items_read : List RawItemTree → List RawItemTree → Sofar
items_read all read = items_after (definitions all) at_start read

abbrev pub body_start : List RawItemTree → List RawItemTree → Bool → NameTree → List NameTree → Spot
body_start all read gives n params = body_spot (definitions all) (items_read all read).spot gives n params

-- these items and these statements of a definition's body were resolved; functions are right up to the limit of calls
pub record IsMaking (m : Making) (all read : List RawItemTree) (gives : Bool) (n : NameTree) (params : List NameTree) (ss : List RawStmtTree) : Type 0 where
  pub defined : m.definitions ≡ definitions all
  pub spot : m.sofar.spot ≡ stmts_after (body_start all read gives n params) (raw_in_order ss)
  pub globals : m.sofar.globals ≡ (items_read all read).globals
  pub tables : m.sofar.tables ≡ (items_read all read).tables
  pub count : length m.sofar.functions ≡ length (items_read all read).functions
  pub functions : (items_read all read).spot.site ≤ 65535 → m.sofar.functions ≡ (items_read all read).functions
  pub counted : (items_read all read).spot.site ≤ 65535 → m.locals ≡ capped (most_locals m.sofar.functions)
  pub least : m.least ≡ least_of (least_of (least_of None (items_faults (definitions all) at_start read)) (head_faults (definitions all) (items_read all read).spot gives n params)) (stmts_faults gives false (body_start all read gives n params) (raw_in_order ss))
  pub named : m.name ≡ n.text
  pub given : m.gives ≡ gives
  pub taken : m.params ≡ length params
  pub outer : m.scope.outer ≡ (items_read all read).spot.outer
  pub inner : m.scope.count ≡ length (with_function (definitions all) (items_read all read).spot.names gives n (length params) true)
  pub outside : m.loops ≡ false
  pub finished : m.unfinished ≡ []
  pub body : m.sofar.spot.site ≤ 65535 → m.body ≡ stmts_list (body_start all read gives n params) ss
