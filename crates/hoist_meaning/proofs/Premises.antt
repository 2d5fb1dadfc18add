-- What is asked of an expression of the text and of the place in the rewritten tree from which what goes before it stands, and what is then
-- so where it is left.
use Rattle.hoist_meaning.proofs.Common.{ℕ, ◌+◌, ◌≡◌, ◌<◌, ◌≤◌, Bool, true, false, List, [], ◌∷◌, ◌++◌, codes, Ok, Err, bytes_eq, row, width, RawExprTree, RawExprTrees, RawElement, RawUnary, RawParenthesized, RawBinary, RawLogicalAnd, RawLogicalOr, RawConditional, RawCall, RawTableCall, NoExprs, And, RawStmtTree, ExprTree, RightTree, Computed, Called, Value, value, values, Binding, find, callee_of, expr_faults, exprs_faults, listed, expr_of, exprs_of, call_faults, table_call_faults, right_of, Spot, inside, left, stmt_after, number_at, right_numbered, Callee, Ready, ReadyCall, calls_in, is_spawn_by, declared, declared_as, set_to, holds_call, hold_call, holds_nested, is_named, is_spawn, names_in, part_after, part_or, part_named, left_of, arguments_left, is_true, in_block, before, arguments_before, value_left, value_before, AreSourceNames, AllSourceNames}
use Rattle.scope_rules.specs.declared.faults.Fault.{Fault}
use Rattle.hoist_meaning.proofs.KnownSpawn.{AreFine}
use Rattle.hoist_meaning.proofs.Bindings.{Agreement, in_text, in_tree, NamesStand}
use Rattle.hoist_meaning.proofs.Items.{after, call_parts, ReadyAlike}
use Rattle.hoist_meaning.proofs.Spots.{StandsAt, with_part, with_names, with_argument_names}
use Rattle.hoist_meaning.proofs.Extends.{TreeBelow}
use Rattle.hoist_meaning.proofs.Ends.{Rows}

-- ---- places within what goes before an expression

-- after a part that is named where a later one holds a call
abbrev pub after_part : Spot → ℕ → Bool → RawExprTree → Spot
after_part s k later e = after (after s (before k e)) (part_named (is_named later e) (k + names_in e) (left_of k e))

-- within the block of a branch, and after it
abbrev pub in_branch : Spot → Spot
in_branch s = inside (inside s)

abbrev pub after_branch : Spot → List RawStmtTree → Spot
after_branch s ss = left s (stmt_after (inside s) (in_block ss))

-- after `int h = l != 0;` and after `int h;`
abbrev pub after_left : Spot → ℕ → RawExprTree → Spot
after_left s k l = after (after s (before k l)) (declared_as (k + names_in l) (is_true (left_of k l)) ∷ [])

abbrev pub after_condition : Spot → ℕ → RawExprTree → Spot
after_condition s k c = after (after s (before k c)) (declared (k + names_in c) ∷ [])

-- ---- the calls of the tree have the numbers of the text's

-- The calls of an expression, the first of which is `site` in the text, stand in the tree from s on, where the number of the j-th call is the
-- j-th of ns.
abbrev mutual
  pub SitesStand : List ℕ → Spot → ℕ → ℕ → RawExprTree → Type 0
  SitesStand ns s k site (RawElement n i) = SitesStand ns s k site i
  SitesStand ns s k site (RawUnary op e) = SitesStand ns s k site e
  SitesStand ns s k site (RawParenthesized e) = SitesStand ns s k site e
  SitesStand ns s k site (RawBinary op l r) = SitesStand ns s k site l × SitesStand ns (after_part s k (holds_call r) l) (part_after k (holds_call r) l) (site + calls_in l) r
  SitesStand ns s k site (RawLogicalAnd l r) = SitesStand ns s k site l × SitesStand ns (in_branch (after_left s k l)) (k + names_in l + 1) (site + calls_in l) r
  SitesStand ns s k site (RawLogicalOr l r) = SitesStand ns s k site l × SitesStand ns (in_branch (after_left s k l)) (k + names_in l + 1) (site + calls_in l) r
  SitesStand ns s k site (RawConditional c x y) =
      SitesStand ns s k site c × SitesStand ns (in_branch (after_condition s k c)) (k + names_in c + 1) (site + calls_in c) x
      × SitesStand ns (in_branch (after_branch (after_condition s k c) (before (k + names_in c + 1) x ++ set_to (k + names_in c) (left_of (k + names_in c + 1) x) ∷ []))) (k + names_in c + 1 + names_in x) (site + calls_in c + calls_in x) y
  SitesStand ns s k site (RawCall n es) = ArgumentSitesStand ns s k (site + 1) (is_spawn n) es × (number_at ns (after s (arguments_before (is_spawn n) k es)).site ≡ site)
  SitesStand ns s k site (RawTableCall n i e) =
      SitesStand ns s k (site + 1) i × SitesStand ns (after_part s k (holds_call e) i) (part_after k (holds_call e) i) (site + 1 + calls_in i) e
      × (number_at ns (after (after_part s k (holds_call e) i) (before (part_after k (holds_call e) i) e)).site ≡ site)
  SitesStand ns s k site _ = Unit {0}

  pub ArgumentSitesStand : List ℕ → Spot → ℕ → ℕ → Bool → RawExprTrees → Type 0
  ArgumentSitesStand ns s k site stays NoExprs = Unit {0}
  ArgumentSitesStand ns s k site true (And e es) = ArgumentSitesStand ns s k (site + calls_in e) false es
  ArgumentSitesStand ns s k site false (And e es) = SitesStand ns s k site e × ArgumentSitesStand ns (after_part s k (hold_call es) e) (part_after k (hold_call es) e) (site + calls_in e) false es

-- ---- what is asked

-- `spawn` starts a thread, and no other name does
abbrev pub KnowsSpawnAlone : List Binding → Type 0
KnowsSpawnAlone ds = (t : List ℕ) → is_spawn_by (callee_of (find t ds)) ≡ bytes_eq t (codes "spawn")

-- The names ds of the text are in scope at a place of the tree by an agreement, where v variables were declared so far; those that both have
-- have the same words, and each of the next `room` variables has one word.
pub record IsPlaced (text names : Rows) (ds : List Binding) (a : Agreement) (v room : ℕ) (s : Spot) : Type 0 where
  pub place : StandsAt a v s
  pub text_names : in_text a ≡ ds
  pub below : TreeBelow v a
  pub alike : NamesStand a text names
  pub few : v + room ≤ 65536
  pub wide : (y : ℕ) → v ≤ y → y < v + room → width names y ≡ 1

-- an expression breaks no rule in the tree, and its calls have their numbers
pub record IsSound (ns : List ℕ) (gives loop : Bool) (a : Agreement) (k v site : ℕ) (e : RawExprTree) (s : Spot) : Type 0 where
  pub source : AreSourceNames e
  pub fine : AreFine gives loop s (before k e)
  pub left_fine : expr_faults (in_tree (with_names k v e a)) (left_of k e) ≡ []
  pub sites : SitesStand ns s k site e

-- ---- what is so where it is left

-- the words of variables before v are as they were, and each variable has as many as before
pub record Keeps (v : ℕ) (names after : Rows) : Type 0 where
  pub words : (y : ℕ) → y < v → row after y ≡ row names y
  pub widths : (y : ℕ) → width after y ≡ width names y

-- what is left of an expression has an outcome
pub record IsLeft (v : ℕ) (b : Agreement) (left : RawExprTree) (start globals after : Rows) (outcome : Value) : Type 0 where
  pub keeps : Keeps v start after
  pub is : value after globals (expr_of (in_tree b) left) ≡ outcome

-- ---- the arguments of a call that are evaluated: of `spawn` all but the first

abbrev pub evaluated : Bool → ℕ → RawExprTrees → List RawExprTree
evaluated true k NoExprs = []
evaluated true k (And e es) = listed (arguments_left false k es)
evaluated false k es = listed (arguments_left false k es)

pub record AreSound (ns : List ℕ) (gives loop stays : Bool) (a : Agreement) (k v site : ℕ) (es : RawExprTrees) (s : Spot) : Type 0 where
  pub source : AllSourceNames es
  pub fine : AreFine gives loop s (arguments_before stays k es)
  pub left_fine : exprs_faults (in_tree (with_argument_names stays k v es a)) (evaluated stays k es) ≡ []
  pub sites : ArgumentSitesStand ns s k site stays es

-- parts of a call one after another: a trap on the way to their values, or the call with all of them
abbrev pub PartsTrap : Agreement → List RawExprTree → Rows → Rows → Value → Type 0
PartsTrap b ls globals names (Ok word) = ⊥
PartsTrap b ls globals names (Err trap) = values names globals (exprs_of (in_tree b) ls) ≡ Err trap

pub record ArePartsLeft (v : ℕ) (b : Agreement) (ls : List RawExprTree) (start globals after : Rows) (outcome : Value) : Type 0 where
  pub keeps : Keeps v start after
  pub is : PartsTrap b ls globals after outcome

pub record IsCalled (v : ℕ) (b : Agreement) (ls : List RawExprTree) (site : ℕ) (callee : Callee) (start globals after : Rows) (call : Ready) : Type 0 where
  pub words : List ℕ
  pub keeps : Keeps v start after
  pub call_is : call ≡ ReadyCall site callee words
  pub is : values after globals (exprs_of (in_tree b) ls) ≡ Ok words

-- ---- a right side or a returned value, and a call as a statement: itself it may be a call

abbrev pub with_value_names : ℕ → ℕ → RawExprTree → Agreement → Agreement
with_value_names k v (RawCall n es) a = with_argument_names (is_spawn n) k v es a
with_value_names k v (RawTableCall n i e) a =
    with_names (part_after k (holds_call e) i) (part_after v (holds_call e) i) e (with_part (is_named (holds_call e) i) (k + names_in i) (v + names_in i) (with_names k v i a))
with_value_names k v e a = with_names k v e a

-- the rules that it breaks, where a call's result is used or not
abbrev pub side_faults : Bool → List Binding → RawExprTree → List Fault
side_faults used names (RawCall n es) = call_faults used names n (listed es)
side_faults used names (RawTableCall n i e) = table_call_faults names n i e
side_faults used names e = expr_faults names e

pub record IsSideSound (ns : List ℕ) (gives loop used : Bool) (a : Agreement) (k v site : ℕ) (e : RawExprTree) (s : Spot) : Type 0 where
  pub source : AreSourceNames e
  pub fine : AreFine gives loop s (value_before k e)
  pub left_fine : side_faults used (in_tree (with_value_names k v e a)) (value_left k e) ≡ []
  pub sites : SitesStand ns s k site e

-- the outcome of a right side by itself: of a call, only a trap on the way to it
abbrev pub SideIs : RightTree → Rows → Rows → Value → Type 0
SideIs (Computed e) globals names outcome = value names globals e ≡ outcome
SideIs (Called c) globals names (Ok word) = ⊥
SideIs (Called c) globals names (Err trap) = values names globals (call_parts c) ≡ Err trap

abbrev pub SideCalls : RightTree → Rows → Rows → Ready → Type 0
SideCalls (Computed e) globals names call = ⊥
SideCalls (Called c) globals names call = ReadyAlike names globals call c

-- the right side that is left, at the place after what goes before it
abbrev pub side_left : List ℕ → Spot → ℕ → RawExprTree → RightTree
side_left ns s k e = right_numbered ns (right_of (after s (value_before k e)).names (after s (value_before k e)).site (value_left k e))

pub record IsSideLeft (v : ℕ) (r : RightTree) (start globals after : Rows) (outcome : Value) : Type 0 where
  pub keeps : Keeps v start after
  pub is : SideIs r globals after outcome

pub record IsSideCall (v : ℕ) (r : RightTree) (start globals after : Rows) (call : Ready) : Type 0 where
  pub keeps : Keeps v start after
  pub is : SideCalls r globals after call

-- ---- `a[i] = v`: the index, and then the right side

-- what is left of the index, after all that goes before the statement; it is named where the right side holds a call within
abbrev pub index_by : Bool → Spot → ℕ → RawExprTree → RawExprTree → ExprTree
index_by named s k i v =
    expr_of (after (after_part s k named i) (value_before (part_after k named i) v)).names (part_or (is_named named i) (k + names_in i) (left_of k i))

abbrev pub index_tree : Spot → ℕ → RawExprTree → RawExprTree → ExprTree
index_tree s k i v = index_by (holds_nested v) s k i v

abbrev pub with_element_names : ℕ → ℕ → RawExprTree → RawExprTree → Agreement → Agreement
with_element_names k v i e a =
    with_value_names (part_after k (holds_nested e) i) (part_after v (holds_nested e) i) e (with_part (is_named (holds_nested e) i) (k + names_in i) (v + names_in i) (with_names k v i a))

pub record IsElementSound (ns : List ℕ) (gives loop : Bool) (a : Agreement) (k v site : ℕ) (i e : RawExprTree) (s : Spot) : Type 0 where
  pub index_source : AreSourceNames i
  pub source : AreSourceNames e
  pub fine : AreFine gives loop s (before k i ++ part_named (is_named (holds_nested e) i) (k + names_in i) (left_of k i) ++ value_before (part_after k (holds_nested e) i) e)
  pub index_fine : expr_faults (in_tree (with_element_names k v i e a)) (part_or (is_named (holds_nested e) i) (k + names_in i) (left_of k i)) ≡ []
  pub left_fine : side_faults true (in_tree (with_element_names k v i e a)) (value_left (part_after k (holds_nested e) i) e) ≡ []
  pub index_sites : SitesStand ns s k site i
  pub sites : SitesStand ns (after_part s k (holds_nested e) i) (part_after k (holds_nested e) i) (site + calls_in i) e

-- The index has this value, and what is left of the right side an outcome; or the index has a trap. Or the right side is this call.
pub record IsElementLeft (v : ℕ) (i : ExprTree) (r : RightTree) (start : Rows) (index : ℕ) (globals after : Rows) (outcome : Value) : Type 0 where
  pub keeps : Keeps v start after
  pub index_is : value after globals i ≡ Ok index
  pub is : SideIs r globals after outcome

pub record IsElementCall (v : ℕ) (i : ExprTree) (r : RightTree) (start : Rows) (index : ℕ) (globals after : Rows) (call : Ready) : Type 0 where
  pub keeps : Keeps v start after
  pub index_is : value after globals i ≡ Ok index
  pub is : SideCalls r globals after call

pub record IsIndexLeft (v : ℕ) (i : ExprTree) (start globals after : Rows) (outcome : Value) : Type 0 where
  pub keeps : Keeps v start after
  pub is : value after globals i ≡ outcome
