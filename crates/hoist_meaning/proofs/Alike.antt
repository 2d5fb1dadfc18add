-- Items of the text and items of the tree that stand for them. What is done with an expression is told by how its evaluation ends, from all
-- words of names that stand; a jump passes over what it doesn't reach. `os` are the names in scope where the loops lead that were begun and
-- aren't ended yet, innermost first.
use Rattle.hoist_meaning.proofs.Common.{ℕ, zero, suc, ◌≡◌, sym, subst, true, false, List, [], ◌∷◌, Some, None, slice_index, SimpleTree, ProgramTree, Item, Loop, Place, Nowhere, InLocal, InGlobal, InLocalElement, InGlobalElement, Returned, function_at, evaluate}
use Rattle.c_tree.specs.Trees as tree
use Rattle.c_mean.specs.ToDo as items
use Rattle.deep_mean.specs.DeepTrees.{DeepExpr, DeepSimple, DeclareScalar, DeclareArray, DeclareWith, SetLocal, SetGlobal, SetLocalElement, SetGlobalElement, Calling, DeepStmt, DeepProgram}
use Rattle.deep_mean.specs.DeepToDo as deep_items
use Rattle.deep_mean.specs.DeepFrames as frames
use Rattle.hoist_meaning.proofs.Bindings.{Agreement, Both, Paired, AreBelow}
use Rattle.hoist_meaning.proofs.Ends.{Rows, NoCall, EndsAs}
use Rattle.hoist_meaning.proofs.Frames.{Words, PlacesAlike, StoreLeaf, CallLeaf, DecideLeaf, ReturnLeaf, IndexLeaf}

-- each pair of the one is one of the other
abbrev pub Within : Agreement → Agreement → Type 0
Within a b = (x y : ℕ) → Paired a x y → Paired b x y

-- a jump passes over what stands before these items
pub record Passes (lead is : List Item) : Type 0 where
  pub leaves : (n : ℕ) → items.after_leave n lead ≡ items.after_leave n is
  pub skips : (n : ℕ) → items.after_skip n lead ≡ items.after_skip n is

-- a statement that evaluates an expression, whose value goes to a place
pub data SideSimple : DeepSimple → DeepExpr → Place → Type 0 where
  Declares : (x : ℕ) (e : DeepExpr) → SideSimple (DeclareWith x e) e (InLocal x)
  SetsLocal : (x : ℕ) (e : DeepExpr) → SideSimple (SetLocal x e) e (InLocal x)
  SetsGlobal : (g : ℕ) (e : DeepExpr) → SideSimple (SetGlobal g e) e (InGlobal g)
  JustCalls : (e : DeepExpr) → SideSimple (Calling e) e Nowhere

-- how deep in the loops a jump is, and what is so where it leads
pub data AtDepth : ℕ → List Agreement → Agreement → List Agreement → Type 0 where
  AtTop : (o : Agreement) (os : List Agreement) → AtDepth zero (o ∷ os) o os
  Under : (n : ℕ) (p o : Agreement) (ps os : List Agreement) → AtDepth n ps o os → AtDepth (suc n) (p ∷ ps) o os

module _ (text : DeepProgram) (program : ProgramTree) where
  -- ---- how evaluations end

  abbrev pub SideGoes : ℕ → Agreement → Place → DeepExpr → List Item → List Item → List Item → Type 0
  SideGoes f a q e rest is lead = (globals txt names : Rows) → Words text program f a txt names
      → EndsAs program f txt true (StoreLeaf text program f a txt q rest is) (CallLeaf text program f a txt q rest is) rest globals names lead (evaluate txt globals e)

  abbrev pub ElementGoes : ℕ → Agreement → (ℕ → Place) → DeepExpr → DeepExpr → List Item → List Item → List Item → List Item → Type 0
  ElementGoes f a q i v between rest is lead = (globals txt names : Rows) → Words text program f a txt names
      → EndsAs program f txt false (IndexLeaf text program f a txt q v between rest is) NoCall between globals names lead (evaluate txt globals i)

  abbrev pub CondGoes : ℕ → Agreement → DeepExpr → List Item → List Item → List Item → List Item → Type 0
  CondGoes f a c rest one other lead = (globals txt names : Rows) → Words text program f a txt names
      → EndsAs program f txt false (DecideLeaf text program f a txt rest one other) NoCall rest globals names lead (evaluate txt globals c)

  abbrev pub ReturnGoes : ℕ → Agreement → DeepExpr → List Item → List Item → List Item → Type 0
  ReturnGoes f a e rest is lead = (globals txt names : Rows) → Words text program f a txt names
      → EndsAs program f txt true (ReturnLeaf text program f txt rest is) (CallLeaf text program f a txt Returned rest is) rest globals names lead (evaluate txt globals e)

  -- a declaration without a value
  pub data Zeroes (f : ℕ) : Agreement → Agreement → DeepSimple → SimpleTree → Type 0 where
    Scalars : (a : Agreement) (t : List ℕ) (n m : ℕ) → AreBelow n m a → slice_index (frames.function_at text f).sizes n ≡ slice_index (function_at program f).sizes m → Zeroes f a (Both t n m false a) (DeclareScalar n) (tree.DeclareScalar m)
    Arrays : (a : Agreement) (t : List ℕ) (n m size : ℕ) → AreBelow n m a → slice_index (frames.function_at text f).sizes n ≡ slice_index (function_at program f).sizes m → Zeroes f a (Both t n m true a) (DeclareArray n size) (tree.DeclareArray m size)
    FixedScalars : (a : Agreement) (n m : ℕ) → AreBelow n m a → Zeroes f a a (DeclareScalar n) (tree.DeclareScalar m)
    FixedArrays : (a : Agreement) (n m size : ℕ) → AreBelow n m a → Zeroes f a a (DeclareArray n size) (tree.DeclareArray m size)

  module _ (Loops : ℕ → List Agreement → Agreement → deep_items.Loop → Loop → Type 0) where
    pub data ItemsAlike (f : ℕ) : List Agreement → Agreement → List deep_items.Item → List Item → Type 0 where
      Nothing : (os : List Agreement) (a : Agreement) → ItemsAlike f os a [] []
      -- fewer names are in scope from here on
      Outer : (os : List Agreement) (a b : Agreement) (ds : List deep_items.Item) (is : List Item) → Within a b → ItemsAlike f os a ds is → ItemsAlike f os b ds is
      Storing : (os : List Agreement) (a b : Agreement) (p q : Place) (d : DeepSimple) (e : DeepExpr) (ds : List deep_items.Item) (rest is lead : List Item) → SideSimple d e p → PlacesAlike text program f a b p q → SideGoes f a q e rest is lead → Passes lead is
          → ItemsAlike f os b ds is → ItemsAlike f os a (deep_items.Simply d ∷ ds) lead
      Zeroing : (os : List Agreement) (a b : Agreement) (d : DeepSimple) (t : SimpleTree) (ds : List deep_items.Item) (is : List Item) → Zeroes f a b d t → ItemsAlike f os b ds is → ItemsAlike f os a (deep_items.Simply d ∷ ds) (items.Simply t ∷ is)
      ElementLocal : (os : List Agreement) (a : Agreement) (n m x y : ℕ) (i v : DeepExpr) (ds : List deep_items.Item) (between rest is lead : List Item) → AreBelow n m a → Paired a x y → ElementGoes f a (InLocalElement y) i v between rest is lead → Passes lead is
          → ItemsAlike f os a ds is → ItemsAlike f os a (deep_items.Simply (SetLocalElement x i v) ∷ ds) lead
      ElementGlobal : (os : List Agreement) (a : Agreement) (g : ℕ) (i v : DeepExpr) (ds : List deep_items.Item) (between rest is lead : List Item) → ElementGoes f a (InGlobalElement g) i v between rest is lead → Passes lead is
          → ItemsAlike f os a ds is → ItemsAlike f os a (deep_items.Simply (SetGlobalElement g i v) ∷ ds) lead
      Choosing : (os : List Agreement) (a : Agreement) (c : DeepExpr) (s r : DeepStmt) (ds : List deep_items.Item) (rest one other is lead : List Item) → CondGoes f a c rest one other lead → Passes lead is
          → ItemsAlike f os a (deep_items.before s ds) one → ItemsAlike f os a (deep_items.before r ds) other → ItemsAlike f os a ds is → ItemsAlike f os a (deep_items.Choose c s r ∷ ds) lead
      Testing : (os : List Agreement) (a : Agreement) (c : DeepExpr) (loop : deep_items.Loop) (ds : List deep_items.Item) (rest one is lead : List Item) → CondGoes f a c rest one is lead → Passes lead is
          → ItemsAlike f (a ∷ os) a (deep_items.body_before loop ds) one → ItemsAlike f os a ds is → ItemsAlike f os a (deep_items.Test c loop ∷ ds) lead
      Entering : (os : List Agreement) (o a : Agreement) (ds : List deep_items.Item) (is : List Item) → ItemsAlike f (o ∷ os) a ds is → ItemsAlike f os a (deep_items.Enter ∷ ds) (items.Enter ∷ is)
      Turning : (os : List Agreement) (a : Agreement) (loop : deep_items.Loop) (there : Loop) (ds : List deep_items.Item) (is : List Item) → Loops f os a loop there → ItemsAlike f os a ds is → ItemsAlike f (a ∷ os) a (deep_items.Back loop ∷ ds) (items.Back there ∷ is)
      Leaving : (os : List Agreement) (o a b : Agreement) (ds : List deep_items.Item) (is : List Item) → Within o a → ItemsAlike f (o ∷ os) b ds is → ItemsAlike f (o ∷ os) a (deep_items.Leave ∷ ds) (items.Leave ∷ is)
      Skipping : (os : List Agreement) (o a b : Agreement) (ds : List deep_items.Item) (is : List Item) → Within o a → ItemsAlike f (o ∷ os) b ds is → ItemsAlike f (o ∷ os) a (deep_items.Skip ∷ ds) (items.Skip ∷ is)
      GivingNone : (os : List Agreement) (a b : Agreement) (ds : List deep_items.Item) (is : List Item) → ItemsAlike f os b ds is → ItemsAlike f os a (deep_items.GiveBack None ∷ ds) (items.GiveBack None ∷ is)
      GivingSome : (os : List Agreement) (a b : Agreement) (e : DeepExpr) (ds : List deep_items.Item) (rest is lead : List Item) → ReturnGoes f a e rest is lead → Passes lead is
          → ItemsAlike f os b ds is → ItemsAlike f os a (deep_items.GiveBack (Some e) ∷ ds) lead

    -- ---- jumps

    -- a `break` leads to what follows the loop in both
    pub leave_alike : (f : ℕ) (ps os : List Agreement) (a o : Agreement) (n : ℕ) (ds : List deep_items.Item) (is : List Item) → AtDepth n ps o os → ItemsAlike f ps a ds is → ItemsAlike f os o (deep_items.after_leave n ds) (items.after_leave n is)
    leave_alike f ps os a o n ds is at (ItemsAlike.Nothing _ _) = ItemsAlike.Nothing os o
    leave_alike f ps os a o n ds is at (ItemsAlike.Outer _ b _ _ _ within h) = leave_alike f ps os b o n ds is at h
    leave_alike f ps os a o n ds is at (ItemsAlike.Storing _ _ b p q d e ds' rest is' _ simple places goes passes h) =
        subst (λ there. ItemsAlike f os o (deep_items.after_leave n ds') there) (sym (passes.leaves n)) (leave_alike f ps os b o n ds' is' at h)
    leave_alike f ps os a o n ds is at (ItemsAlike.Zeroing _ _ b d t ds' is' zeroes h) = leave_alike f ps os b o n ds' is' at h
    leave_alike f ps os a o n ds is at (ItemsAlike.ElementLocal _ _ k m x y i v ds' between rest is' _ below pair goes passes h) =
        subst (λ there. ItemsAlike f os o (deep_items.after_leave n ds') there) (sym (passes.leaves n)) (leave_alike f ps os a o n ds' is' at h)
    leave_alike f ps os a o n ds is at (ItemsAlike.ElementGlobal _ _ g i v ds' between rest is' _ goes passes h) =
        subst (λ there. ItemsAlike f os o (deep_items.after_leave n ds') there) (sym (passes.leaves n)) (leave_alike f ps os a o n ds' is' at h)
    leave_alike f ps os a o n ds is at (ItemsAlike.Choosing _ _ c s r ds' rest one other is' _ goes passes taken passed h) =
        subst (λ there. ItemsAlike f os o (deep_items.after_leave n ds') there) (sym (passes.leaves n)) (leave_alike f ps os a o n ds' is' at h)
    leave_alike f ps os a o n ds is at (ItemsAlike.Testing _ _ c loop ds' rest one is' _ goes passes body h) =
        subst (λ there. ItemsAlike f os o (deep_items.after_leave n ds') there) (sym (passes.leaves n)) (leave_alike f ps os a o n ds' is' at h)
    leave_alike f ps os a o n ds is at (ItemsAlike.Entering _ p _ ds' is' h) = leave_alike f (p ∷ ps) os a o (suc n) ds' is' (AtDepth.Under n p o ps os at) h
    leave_alike f ps os a o zero ds is (AtDepth.AtTop _ _) (ItemsAlike.Turning _ _ loop there ds' is' loops h) = h
    leave_alike f ps os a o (suc n) ds is (AtDepth.Under _ _ _ qs _ at) (ItemsAlike.Turning _ _ loop there ds' is' loops h) = leave_alike f qs os a o n ds' is' at h
    leave_alike f ps os a o n ds is at (ItemsAlike.Leaving _ p _ b ds' is' within h) = leave_alike f ps os b o n ds' is' at h
    leave_alike f ps os a o n ds is at (ItemsAlike.Skipping _ p _ b ds' is' within h) = leave_alike f ps os b o n ds' is' at h
    leave_alike f ps os a o n ds is at (ItemsAlike.GivingNone _ _ b ds' is' h) = leave_alike f ps os b o n ds' is' at h
    leave_alike f ps os a o n ds is at (ItemsAlike.GivingSome _ _ b e ds' rest is' _ goes passes h) =
        subst (λ there. ItemsAlike f os o (deep_items.after_leave n ds') there) (sym (passes.leaves n)) (leave_alike f ps os b o n ds' is' at h)

    abbrev pub Alike : ℕ → Agreement → List deep_items.Item → List Item → Type 0
    Alike f a ds is = (os : List Agreement) × ItemsAlike f os a ds is

    -- and a `continue` to the next turn of a `while`, or to the step of a `for`
    module _ (skips : (f : ℕ) (os : List Agreement) (a : Agreement) (loop : deep_items.Loop) (there : Loop) (ds : List deep_items.Item) (is : List Item) → Loops f os a loop there → ItemsAlike f os a ds is → Alike f a (deep_items.skipped loop ds) (items.skipped there is)) where
      pub skip_alike : (f : ℕ) (ps os : List Agreement) (a o : Agreement) (n : ℕ) (ds : List deep_items.Item) (is : List Item) → AtDepth n ps o os → ItemsAlike f ps a ds is → Alike f o (deep_items.after_skip n ds) (items.after_skip n is)
      skip_alike f ps os a o n ds is at (ItemsAlike.Nothing _ _) = (os, ItemsAlike.Nothing os o)
      skip_alike f ps os a o n ds is at (ItemsAlike.Outer _ b _ _ _ within h) = skip_alike f ps os b o n ds is at h
      skip_alike f ps os a o n ds is at (ItemsAlike.Storing _ _ b p q d e ds' rest is' _ simple places goes passes h) =
          subst (λ there. Alike f o (deep_items.after_skip n ds') there) (sym (passes.skips n)) (skip_alike f ps os b o n ds' is' at h)
      skip_alike f ps os a o n ds is at (ItemsAlike.Zeroing _ _ b d t ds' is' zeroes h) = skip_alike f ps os b o n ds' is' at h
      skip_alike f ps os a o n ds is at (ItemsAlike.ElementLocal _ _ k m x y i v ds' between rest is' _ below pair goes passes h) =
          subst (λ there. Alike f o (deep_items.after_skip n ds') there) (sym (passes.skips n)) (skip_alike f ps os a o n ds' is' at h)
      skip_alike f ps os a o n ds is at (ItemsAlike.ElementGlobal _ _ g i v ds' between rest is' _ goes passes h) =
          subst (λ there. Alike f o (deep_items.after_skip n ds') there) (sym (passes.skips n)) (skip_alike f ps os a o n ds' is' at h)
      skip_alike f ps os a o n ds is at (ItemsAlike.Choosing _ _ c s r ds' rest one other is' _ goes passes taken passed h) =
          subst (λ there. Alike f o (deep_items.after_skip n ds') there) (sym (passes.skips n)) (skip_alike f ps os a o n ds' is' at h)
      skip_alike f ps os a o n ds is at (ItemsAlike.Testing _ _ c loop ds' rest one is' _ goes passes body h) =
          subst (λ there. Alike f o (deep_items.after_skip n ds') there) (sym (passes.skips n)) (skip_alike f ps os a o n ds' is' at h)
      skip_alike f ps os a o n ds is at (ItemsAlike.Entering _ p _ ds' is' h) = skip_alike f (p ∷ ps) os a o (suc n) ds' is' (AtDepth.Under n p o ps os at) h
      skip_alike f ps os a o zero ds is (AtDepth.AtTop _ _) (ItemsAlike.Turning _ _ loop there ds' is' loops h) = skips f os a loop there ds' is' loops h
      skip_alike f ps os a o (suc n) ds is (AtDepth.Under _ _ _ qs _ at) (ItemsAlike.Turning _ _ loop there ds' is' loops h) = skip_alike f qs os a o n ds' is' at h
      skip_alike f ps os a o n ds is at (ItemsAlike.Leaving _ p _ b ds' is' within h) = skip_alike f ps os b o n ds' is' at h
      skip_alike f ps os a o n ds is at (ItemsAlike.Skipping _ p _ b ds' is' within h) = skip_alike f ps os b o n ds' is' at h
      skip_alike f ps os a o n ds is at (ItemsAlike.GivingNone _ _ b ds' is' h) = skip_alike f ps os b o n ds' is' at h
      skip_alike f ps os a o n ds is at (ItemsAlike.GivingSome _ _ b e ds' rest is' _ goes passes h) =
          subst (λ there. Alike f o (deep_items.after_skip n ds') there) (sym (passes.skips n)) (skip_alike f ps os b o n ds' is' at h)
