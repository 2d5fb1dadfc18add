-- What is known of a place of the text and of the place of the tree that stands for it, and what is known of the statements there: their
-- names are a source's, the tree's break no rule, their variables are those of the functions, and their calls those of the whole.
use Rattle.hoist_meaning.proofs.Common.{ℕ, ◌≡◌, ◌≤◌, Bool, List, [], ◌∷◌, ◌++◌, length, RawExprTree, RawSimpleTree, RawStmtTree, RawStmtTrees, RawDo, ProgramTree, IsForWhole, AreForsWhole, function_at, expr_faults, Spot, number_at, is_call, expr_places, simple_places, stmt_places, stmts_places, DeepProgram, left_of, before, value_left, value_before, simple_left, simple_before, hoisted, all_hoisted, StandsAt, IsPlain, IsSimplePlain, IsStmtPlain, AreStmtsPlain, AreSourceNames, IsSimpleNamed, IsStmtNamed, AreStmtsNamed}
use Rattle.deep_mean.specs.DeepFrames as frames
use Rattle.deep_mean.specs.Naming as deep
use Rattle.hoist_meaning.proofs.KnownSpawn.{AreFine}
use Rattle.hoist_meaning.proofs.Bindings.{Agreement}
use Rattle.hoist_meaning.proofs.Items.{after}
use Rattle.hoist_meaning.proofs.Declarations.{BothStand}
use Rattle.hoist_meaning.proofs.Premises.{KnowsSpawnAlone, side_faults}
use Rattle.hoist_meaning.proofs.Sizes.{Grows}
use Rattle.hoist_meaning.proofs.SiteNumbers.{Occurs, TreeHas}

-- a place of the text, and the one of the tree
pub record PlaceFits (a : Agreement) (s t : Spot) : Type 0 where
  pub stand : BothStand a (length s.sizes) (length t.sizes) s t
  pub knows : KnowsSpawnAlone s.names

-- Where function f is, of a text whose calls stand at these places and a tree whose calls stand at those, numbered by ns; no limit is
-- exceeded.
pub record Whole (text : DeepProgram) (program : ProgramTree) (ns text_calls tree_calls : List ℕ) (f : ℕ) : Type 0 where
  pub text_few : length (frames.function_at text f).sizes ≤ 65536
  pub tree_few : length (function_at program f).sizes ≤ 65536
  pub calls_few : length tree_calls ≤ 65536
  pub numbers : (j k at : ℕ) → StandsAt tree_calls j at → StandsAt text_calls k at → number_at ns j ≡ k

module _ (text : DeepProgram) (program : ProgramTree) (ns text_calls tree_calls : List ℕ) (f : ℕ) (gives loop : Bool) where
  abbrev pub TextBegins : Spot → Type 0
  TextBegins s = Grows s.sizes (frames.function_at text f).sizes

  abbrev pub TreeBegins : Spot → Type 0
  TreeBegins t = Grows t.sizes (function_at program f).sizes

  pub record ConditionFits (a : Agreement) (k : ℕ) (s t : Spot) (e : RawExprTree) : Type 0 where
    pub named : AreSourceNames e
    pub place : PlaceFits a s t
    pub fine : AreFine gives loop t (before k e)
    pub left_fine : expr_faults (after t (before k e)).names (left_of k e) ≡ []
    pub tree_sizes : TreeBegins (after t (before k e))
    pub plain : IsPlain e
    pub in_text : Occurs text_calls s.site (expr_places is_call e)
    pub in_tree : TreeHas tree_calls t (before k e)

  pub record SideFits (used_ : Bool) (a : Agreement) (k : ℕ) (s t : Spot) (e : RawExprTree) : Type 0 where
    pub named : AreSourceNames e
    pub place : PlaceFits a s t
    pub fine : AreFine gives loop t (value_before k e)
    pub left_fine : side_faults used_ (after t (value_before k e)).names (value_left k e) ≡ []
    pub tree_sizes : TreeBegins (after t (value_before k e))
    pub plain : IsPlain e
    pub in_text : Occurs text_calls s.site (expr_places is_call e)
    pub in_tree : TreeHas tree_calls t (value_before k e)
    pub left_calls : Occurs tree_calls (after t (value_before k e)).site (expr_places is_call (value_left k e))

  abbrev pub simple_hoisted : ℕ → RawSimpleTree → List RawStmtTree
  simple_hoisted k p = simple_before k p ++ RawDo (simple_left k p) ∷ []

  pub record SimpleFits (a : Agreement) (k : ℕ) (s t : Spot) (p : RawSimpleTree) : Type 0 where
    pub named : IsSimpleNamed p
    pub place : PlaceFits a s t
    pub fine : AreFine gives loop t (simple_hoisted k p)
    pub text_sizes : TextBegins (deep.simple_after s p)
    pub tree_sizes : TreeBegins (after t (simple_hoisted k p))
    pub plain : IsSimplePlain p
    pub in_text : Occurs text_calls s.site (simple_places is_call p)
    pub in_tree : TreeHas tree_calls t (simple_hoisted k p)

  pub record StmtFits (a : Agreement) (k : ℕ) (s t : Spot) (p : RawStmtTree) : Type 0 where
    pub named : IsStmtNamed p
    pub for_whole : IsForWhole p
    pub place : PlaceFits a s t
    pub fine : AreFine gives loop t (hoisted k p)
    pub text_sizes : TextBegins (deep.stmt_after s p)
    pub tree_sizes : TreeBegins (after t (hoisted k p))
    pub plain : IsStmtPlain p
    pub in_text : Occurs text_calls s.site (stmt_places is_call p)
    pub in_tree : TreeHas tree_calls t (hoisted k p)

  pub record StmtsFit (a : Agreement) (k : ℕ) (s t : Spot) (ps : RawStmtTrees) : Type 0 where
    pub named : AreStmtsNamed ps
    pub for_whole : AreForsWhole ps
    pub place : PlaceFits a s t
    pub fine : AreFine gives loop t (all_hoisted k ps)
    pub text_sizes : TextBegins (deep.stmts_after s ps)
    pub tree_sizes : TreeBegins (after t (all_hoisted k ps))
    pub plain : AreStmtsPlain ps
    pub in_text : Occurs text_calls s.site (stmts_places is_call ps)
    pub in_tree : TreeHas tree_calls t (all_hoisted k ps)
