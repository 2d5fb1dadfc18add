-- What is asked of a statement of the text and of the place in the rewritten tree from which what stands for it is: for each expression its
-- names, rules and numbers, for each name that is set the variable of both, and where `break` and `continue` lead.
use Rattle.hoist_meaning.proofs.Common.{ℕ, ◌+◌, ◌≡◌, ◌⊎◌, Bool, true, false, List, [], ◌∷◌, Option, Some, None, RawExprTree, RawCall, RawTableCall, RawSimpleTree, RawDeclareScalar, RawDeclareArray, RawDeclareWith, RawSet, RawSetElement, RawCalling, RawTableCalling, RawStmtTree, RawStmtTrees, RawDo, RawEmpty, RawBlock, RawIf, RawIfElse, RawWhile, RawFor, RawBreak, RawReturn, NoRawStmts, RawThen, ExprTree, RightTree, SimpleTree, ProgramTree, IsSimpleWhole, HasNoCall, as_body, Item, Place, Spot, inside, left, stmt_after, simple_numbered, stmt_numbered, calls_in, counted, holds_call, holds_nested, names_in, part_after, left_of, before, is_false, value_names, simple_left, simple_before, stmt_names, hoisted}
use Rattle.c_tree.specs.Trees as tree
use Rattle.c_mean.specs.ToDo as items
use Rattle.scope_rules.specs.Simples as tree_simples
use Rattle.scope_rules.specs.Statements as tree_stmts
use Rattle.deep_mean.specs.DeepTrees.{DeepExpr, DeepSimple, SetLocalElement, SetGlobalElement, DeepProgram}
use Rattle.deep_mean.specs.Naming as deep
use Rattle.hoist_meaning.proofs.Bindings.{Agreement, Paired, AreBelow}
use Rattle.hoist_meaning.proofs.Items.{items_of, after}
use Rattle.hoist_meaning.proofs.Premises.{after_part, IsSound, IsSideSound, side_left, IsElementSound, index_tree}
use Rattle.hoist_meaning.proofs.Frames.{PlacesAlike}
use Rattle.hoist_meaning.proofs.Alike.{Within, SideSimple, Zeroes}
use Rattle.hoist_meaning.proofs.Goes.{OwnSide, Scope}

-- an element that is set in both: its array, the index and the right side
pub data ElementBoth (a : Agreement) : DeepSimple → DeepExpr → DeepExpr → SimpleTree → ExprTree → RightTree → Type 0 where
  InVariable : (n m x y : ℕ) (i v : DeepExpr) (index : ExprTree) (r : RightTree) → AreBelow n m a → Paired a x y → ElementBoth a (SetLocalElement x i v) i v (tree.SetLocalElement y index r) index r
  InGlobalArray : (g : ℕ) (i v : DeepExpr) (index : ExprTree) (r : RightTree) → ElementBoth a (SetGlobalElement g i v) i v (tree.SetGlobalElement g index r) index r

-- where the tests of a `while` with a call stand, and what follows them
abbrev pub in_turn : Spot → Spot
in_turn t = inside (inside t)

abbrev pub after_test : Spot → ℕ → RawExprTree → Spot
after_test t k e = stmt_after (after (in_turn t) (before k e)) (RawIf (is_false (left_of k e)) (RawBreak 0))

module _ (text : DeepProgram) (program : ProgramTree) (ns : List ℕ) (f : ℕ) where
  -- a condition
  pub record ConditionSound (a : Agreement) (k : ℕ) (s t : Spot) (e : RawExprTree) : Type 0 where
    pub variables : ℕ
    pub gives : Bool
    pub loop : Bool
    pub scope : Scope text program f a variables (names_in e) s t
    pub sound : IsSound ns gives loop a k variables s.site e t

  -- a right side or a returned value
  pub record SideSound (a : Agreement) (k : ℕ) (s t : Spot) (e : RawExprTree) : Type 0 where
    pub variables : ℕ
    pub gives : Bool
    pub loop : Bool
    pub is_used : Bool
    pub scope : Scope text program f a variables (value_names e) s t
    pub sound : IsSideSound ns gives loop is_used a k variables s.site e t

  -- a statement with one right side, after which the names of b are in scope
  pub record OneSide (a b : Agreement) (k : ℕ) (s t : Spot) (p : RawSimpleTree) (e : RawExprTree) : Type 0 where
    pub middle : Agreement
    pub from : Place
    pub to : Place
    pub in_text : SideSimple (deep.simple_of s p) (deep.expr_of s.names s.site e) from
    pub in_tree : OwnSide (simple_numbered ns (tree_simples.simple_of (after t (simple_before k p)) (simple_left k p))) (side_left ns t k e) to
    pub places : PlacesAlike text program f a middle from to
    pub within : Within b middle
    pub side : SideSound a k s t e

  pub record OneElement (a b : Agreement) (k : ℕ) (s t : Spot) (p : RawSimpleTree) (i e : RawExprTree) : Type 0 where
    pub variables : ℕ
    pub gives : Bool
    pub loop : Bool
    pub both : ElementBoth a (deep.simple_of s p) (deep.expr_of s.names s.site i) (deep.expr_of s.names (s.site + calls_in i) e) (simple_numbered ns (tree_simples.simple_of (after t (simple_before k p)) (simple_left k p))) (index_tree t k i e)
        (side_left ns (after_part t k (holds_nested e) i) (part_after k (holds_nested e) i) e)
    pub within : Within b a
    pub scope : Scope text program f a variables (part_after 0 (holds_nested e) i + value_names e) s t
    pub sound : IsElementSound ns gives loop a k variables s.site i e t

  -- a declaration without a value
  pub record OneZeroed (a b : Agreement) (s t : Spot) (p : RawSimpleTree) : Type 0 where
    pub middle : Agreement
    pub zeroes : Zeroes text program f a middle (deep.simple_of s p) (simple_numbered ns (tree_simples.simple_of t p))
    pub within : Within b middle

  abbrev pub SimpleSound : Agreement → Agreement → ℕ → Spot → Spot → RawSimpleTree → Type 0
  SimpleSound a b k s t (RawDeclareScalar n) = OneZeroed a b s t (RawDeclareScalar n)
  SimpleSound a b k s t (RawDeclareArray n size) = OneZeroed a b s t (RawDeclareArray n size)
  SimpleSound a b k s t (RawDeclareWith n v) = OneSide a b k s t (RawDeclareWith n v) v
  SimpleSound a b k s t (RawSet n v) = OneSide a b k s t (RawSet n v) v
  SimpleSound a b k s t (RawSetElement n i v) = OneElement a b k s t (RawSetElement n i v) i v
  SimpleSound a b k s t (RawCalling n es) = OneSide a b k s t (RawCalling n es) (RawCall n es)
  SimpleSound a b k s t (RawTableCalling n i e) = OneSide a b k s t (RawTableCalling n i e) (RawTableCall n i e)

  -- a statement of the text stands as a body, which is a block where it takes more than one
  abbrev pub IsBodyAt : ℕ → Spot → Spot → RawStmtTree → Type 0
  IsBodyAt k t place p = (rest : List Item) → items.before (stmt_numbered ns (tree_stmts.stmt_of t (as_body (hoisted k p)))) rest ≡ items_of ns place (hoisted k p) rest

  abbrev pub JumpSound : Option Agreement → Agreement → Type 0
  JumpSound None a = ⊥
  JumpSound (Some o) a = Within o a

  abbrev pub ReturnSound : Agreement → ℕ → Spot → Spot → Option RawExprTree → Type 0
  ReturnSound a k s t None = Unit {0}
  ReturnSound a k s t (Some e) = SideSound a k s t e

  -- the parts in the parentheses of a `for`, in which each call is whole
  abbrev pub PartsSound : Agreement → Agreement → ℕ → Spot → Spot → List RawSimpleTree → Type 0
  PartsSound a c k s t [] = Within c a
  PartsSound a c k s t (p ∷ ps) = (b : Agreement) × IsSimpleWhole p × SimpleSound a b k s t p × PartsSound b c k (deep.simple_after s p) (tree_simples.simple_after t p) ps

  abbrev pub TurnSound : Agreement → ℕ → Spot → Spot → Option RawExprTree → Type 0
  TurnSound a k s t None = Unit {0}
  TurnSound a k s t (Some e) = HasNoCall e × ConditionSound a k s t e

  abbrev pub StepSound : Agreement → ℕ → Spot → Spot → Option RawSimpleTree → Type 0
  StepSound a k s t None = Unit {0}
  StepSound a k s t (Some p) = IsSimpleWhole p × SimpleSound a a k s t p

  -- Of each body: the names in scope where it begins and where it ends, and its place. At a `for`, its parts come first.
  abbrev mutual
    pub StmtSound : Option Agreement → Agreement → Agreement → ℕ → Spot → Spot → RawStmtTree → Type 0
    StmtSound o a b k s t (RawDo p) = SimpleSound a b k s t p
    StmtSound o a b k s t RawEmpty = Within b a
    StmtSound o a b k s t (RawBlock ps) = (c : Agreement) × Within b c × StmtsSound o a c k (inside s) (inside t) ps
    StmtSound o a b k s t (RawIf e p) =
        ConditionSound a k s t e × Within b a
        × ((c : Agreement) × (d : Agreement) × (place : Spot) × Within c a × Within b d × IsBodyAt (k + names_in e) (inside (after t (before k e))) place p
        × StmtSound o c d (k + names_in e) (inside (counted s (calls_in e))) place p)
    StmtSound o a b k s t (RawIfElse e p r) =
        ConditionSound a k s t e × Within b a
        × ((c : Agreement) × (d : Agreement) × (place : Spot) × Within c a × Within b d × IsBodyAt (k + names_in e) (inside (after t (before k e))) place p
        × StmtSound o c d (k + names_in e) (inside (counted s (calls_in e))) place p)
        × ((c : Agreement) × (d : Agreement) × (place : Spot) × Within c a × Within b d
        × IsBodyAt (k + names_in e + stmt_names p) (inside (left (after t (before k e)) (stmt_after (inside (after t (before k e))) (as_body (hoisted (k + names_in e) p))))) place r
        × StmtSound o c d (k + names_in e + stmt_names p) (inside (left s (deep.stmt_after (inside (counted s (calls_in e))) p))) place r)
    StmtSound o a b k s t (RawWhile e p) =
        Within b a
        × (((holds_call e ≡ false) × ConditionSound a k s t e
        × ((c : Agreement) × (d : Agreement) × (place : Spot) × Within c a × Within a d × IsBodyAt k (inside t) place p × StmtSound (Some a) c d k (inside (counted s (calls_in e))) place p))
        ⊎ ((holds_call e ≡ true) × ConditionSound a k s (in_turn t) e
        × ((c : Agreement) × (d : Agreement) × (place : Spot) × Within c a × Within a d × IsBodyAt (k + names_in e) (after_test t k e) place p
        × StmtSound (Some a) c d (k + names_in e) (inside (counted s (calls_in e))) place p)))
    StmtSound o a b k s t (RawFor init c step p) =
        (m : Agreement) × Within b m × PartsSound a m k (inside s) (inside t) init
        × TurnSound m k (deep.simples_after (inside s) init) (tree_simples.simples_after (inside t) init) c
        × StepSound m k (deep.optional_after (deep.simples_after (inside s) init) c) (tree_simples.simples_after (inside t) init) step
        × ((d : Agreement) × (e : Agreement) × (place : Spot) × Within d m × Within m e × IsBodyAt k (inside (tree_stmts.step_after (tree_simples.simples_after (inside t) init) step)) place p
        × StmtSound (Some m) d e k (inside (deep.step_after (deep.optional_after (deep.simples_after (inside s) init) c) step)) place p)
    StmtSound o a b k s t (RawReturn at v) = ReturnSound a k s t v
    StmtSound o a b k s t _ = JumpSound o a

    pub StmtsSound : Option Agreement → Agreement → Agreement → ℕ → Spot → Spot → RawStmtTrees → Type 0
    StmtsSound o a c k s t NoRawStmts = Within c a
    StmtsSound o a c k s t (RawThen p ps) = (b : Agreement) × StmtSound o a b k s t p × StmtsSound o b c (k + stmt_names p) (deep.stmt_after s p) (after t (hoisted k p)) ps
