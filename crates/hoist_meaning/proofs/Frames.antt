-- When a frame of the rewritten program stands for a frame of the text: it has the same items to do, or it is to come in silence to the end of
-- the expression that is in evaluation there. What the items of one and the other are is a parameter: `Alike`, of a function's number, the
-- names in scope, the items of the text and those of the tree.
use Rattle.hoist_meaning.proofs.Common.{ℕ, zero, suc, ◌≡◌, ◌⊎◌, true, false, List, [], ◌∷◌, Option, Some, None, Ok, Err, slice_index, width, Goes, Stops, moves, TrapKind, CallTree, RightTree, Computed, Called, SimpleTree, DeclareWith, SetLocal, SetGlobal, SetLocalElement, SetGlobalElement, Calling, ProgramTree, Value, Item, Simply, GiveBack, GiveBackWord, Fail, Place, Nowhere, InLocal, InGlobal, InLocalElement, InGlobalElement, Returned, WaitingFrame, Running, Waiting, function_at, SourceMove, assigned, called, delivered, returned, source_step, source_machine, DeepExpr, DeepStmt, DeepProgram, Around, Ready, Evaluation, evaluate, go_on, Use, Stores, IndexesLocal, IndexesGlobal, Branches, Tests, Returns, DeepWaitingFrame, DeepRunning, DeepWaiting}
use Rattle.deep_mean.specs.DeepToDo as deep_items
use Rattle.deep_mean.specs.DeepFrames as frames
use Rattle.deep_mean.specs.DeepSteps as deep_steps
use Rattle.hoist_meaning.proofs.Bindings.{Agreement, Both, Paired, AreBelow, NamesStand}
use Rattle.hoist_meaning.proofs.Items.{Leads, at, ReadyAlike}
use Rattle.hoist_meaning.proofs.Ends.{Rows, NoCall, StopsAt, EndsAs}

-- the call that the first item makes, if it makes one
abbrev pub right_call : RightTree → Option CallTree
right_call (Computed e) = None
right_call (Called call) = Some call

abbrev pub simple_call : SimpleTree → Option CallTree
simple_call (DeclareWith x v) = right_call v
simple_call (SetLocal x v) = right_call v
simple_call (SetGlobal g v) = right_call v
simple_call (SetLocalElement a i v) = right_call v
simple_call (SetGlobalElement a i v) = right_call v
simple_call (Calling call) = Some call
simple_call _ = None

abbrev pub returned_call : Option RightTree → Option CallTree
returned_call None = None
returned_call (Some v) = right_call v

abbrev pub first_call : List Item → Option CallTree
first_call (Simply s ∷ rest) = simple_call s
first_call (GiveBack v ∷ rest) = returned_call v
first_call _ = None

-- what a use of a value decides between: what is to do where it isn't 0, and where it is
pub data Decides : Use → List deep_items.Item → List deep_items.Item → List deep_items.Item → Type 0 where
  ByBranch : (s r : DeepStmt) (ds : List deep_items.Item) → Decides (Branches s r) ds (deep_items.before s ds) (deep_items.before r ds)
  ByTest : (loop : deep_items.Loop) (ds : List deep_items.Item) → Decides (Tests loop) ds (deep_items.body_before loop ds) ds

module _ (text : DeepProgram) (program : ProgramTree) where
  -- a thread in a frame of the text
  abbrev pub text_at : ℕ → List DeepWaitingFrame → Rows → Rows → List deep_items.Item → DeepRunning
  text_at f below globals names items = record { frame = record { function = f; names = names; to_do = items }; below = below; globals = globals }

  -- the words of names stand by an agreement, and each name has as many words as its function gives it
  pub record Words (f : ℕ) (a : Agreement) (txt names : Rows) : Type 0 where
    pub stand : NamesStand a txt names
    pub text_wide : (x : ℕ) → width txt x ≡ slice_index (frames.function_at text f).sizes x
    pub tree_wide : (y : ℕ) → width names y ≡ slice_index (function_at program f).sizes y

  -- Two places are the same, where names stand by the first agreement; after a word went there they stand by the second.
  pub data PlacesAlike (f : ℕ) : Agreement → Agreement → Place → Place → Type 0 where
    ToNowhere : (a : Agreement) → PlacesAlike f a a Nowhere Nowhere
    ToLocal : (a : Agreement) (n m x y : ℕ) → AreBelow n m a → Paired a x y → PlacesAlike f a a (InLocal x) (InLocal y)
    ToDeclared : (a : Agreement) (t : List ℕ) (n m : ℕ) → AreBelow n m a → slice_index (frames.function_at text f).sizes n ≡ 1 → slice_index (function_at program f).sizes m ≡ 1 → PlacesAlike f a (Both t n m false a) (InLocal n) (InLocal m)
    ToFixed : (a : Agreement) (n m : ℕ) → AreBelow n m a → PlacesAlike f a a (InLocal n) (InLocal m)
    ToGlobal : (a : Agreement) (g : ℕ) → PlacesAlike f a a (InGlobal g) (InGlobal g)
    ToLocalElement : (a : Agreement) (n m x y i : ℕ) → AreBelow n m a → Paired a x y → PlacesAlike f a a (InLocalElement x i) (InLocalElement y i)
    ToGlobalElement : (a : Agreement) (g i : ℕ) → PlacesAlike f a a (InGlobalElement g i) (InGlobalElement g i)

  -- ---- what the tree does at the end of an expression, whatever frames are below

  abbrev pub Steps : ℕ → Rows → Rows → List Item → (List WaitingFrame → SourceMove) → Type 0
  Steps f globals names items move = (below : List WaitingFrame) → source_step program (at program f below globals names items) ≡ move below

  abbrev pub StoresBy : ℕ → Rows → Place → List Item → List Item → Rows → Rows → Value → Type 0
  StoresBy f txt place rest is globals after (Ok word) = Steps f globals after rest (λ below. assigned (at program f below globals after is) place word)
  StoresBy f txt place rest is globals after (Err trap) = StopsAt program f txt globals after rest trap

  pub record StoreLeaf (f : ℕ) (a : Agreement) (txt : Rows) (place : Place) (rest is : List Item) (globals after : Rows) (outcome : Value) : Type 0 where
    pub words : Words f a txt after
    pub goes : StoresBy f txt place rest is globals after outcome

  -- the first item makes the call, whose result goes to a place
  pub record CallLeaf (f : ℕ) (a : Agreement) (txt : Rows) (place : Place) (rest is : List Item) (globals after : Rows) (call : Ready) : Type 0 where
    pub words : Words f a txt after
    pub made : CallTree
    pub alike : ReadyAlike after globals call made
    pub first : first_call rest ≡ Some made
    pub goes : Steps f globals after rest (λ below. called program (at program f below globals after is) place made)

  -- one or more steps to the one or the other
  abbrev pub Turns : ℕ → Rows → Rows → List Item → List Item → Type 0
  Turns f globals names rest items = (below : List WaitingFrame) → (n : ℕ) × (moves (source_machine program) (suc n) (at program f below globals names rest) ≡ Goes (at program f below globals names items))

  abbrev pub DecidesBy : ℕ → Rows → List Item → List Item → List Item → Rows → Rows → Value → Type 0
  DecidesBy f txt rest one other globals after (Ok zero) = Turns f globals after rest other
  DecidesBy f txt rest one other globals after (Ok (suc word)) = Turns f globals after rest one
  DecidesBy f txt rest one other globals after (Err trap) = StopsAt program f txt globals after rest trap

  pub record DecideLeaf (f : ℕ) (a : Agreement) (txt : Rows) (rest one other : List Item) (globals after : Rows) (outcome : Value) : Type 0 where
    pub words : Words f a txt after
    pub goes : DecidesBy f txt rest one other globals after outcome

  abbrev pub ReturnsBy : ℕ → Rows → List Item → List Item → Rows → Rows → Value → Type 0
  ReturnsBy f txt rest is globals after (Ok word) = Steps f globals after rest (λ below. returned (at program f below globals after is) below word)
  ReturnsBy f txt rest is globals after (Err trap) = StopsAt program f txt globals after rest trap

  pub record ReturnLeaf (f : ℕ) (txt : Rows) (rest is : List Item) (globals after : Rows) (outcome : Value) : Type 0 where
    pub goes : ReturnsBy f txt rest is globals after outcome

  -- after the index of an element that is set, the right side is in evaluation
  abbrev pub IndexLeaf : ℕ → Agreement → Rows → (ℕ → Place) → DeepExpr → List Item → List Item → List Item → Rows → Rows → Value → Type 0
  IndexLeaf f a txt place v between rest is globals after (Ok index) =
      EndsAs program f txt true (StoreLeaf f a txt (place index) rest is) (CallLeaf f a txt (place index) rest is) rest globals after between (evaluate txt globals v)
  IndexLeaf f a txt place v between rest is globals after (Err trap) = StopsAt program f txt globals after between trap

  module _ (Alike : ℕ → Agreement → List deep_items.Item → List Item → Type 0) where
    -- An evaluation of the text, whose value has a use, after which these items are to do; and the words and items of the tree.
    pub data Going (f : ℕ) (txt : Rows) : Rows → Rows → List Item → Evaluation → Use → List deep_items.Item → Type 0 where
      Storing : (globals names : Rows) (items : List Item) (e : Evaluation) (a b : Agreement) (p q : Place) (ds : List deep_items.Item) (rest is : List Item) → PlacesAlike f a b p q → Alike f b ds is
          → EndsAs program f txt true (StoreLeaf f a txt q rest is) (CallLeaf f a txt q rest is) rest globals names items e → Going f txt globals names items e (Stores p) ds
      IndexingLocal : (globals names : Rows) (items : List Item) (e : Evaluation) (a : Agreement) (n m x y : ℕ) (v : DeepExpr) (ds : List deep_items.Item) (between rest is : List Item) → AreBelow n m a → Paired a x y → Alike f a ds is
          → EndsAs program f txt false (IndexLeaf f a txt (InLocalElement y) v between rest is) NoCall between globals names items e → Going f txt globals names items e (IndexesLocal x v) ds
      IndexingGlobal : (globals names : Rows) (items : List Item) (e : Evaluation) (a : Agreement) (g : ℕ) (v : DeepExpr) (ds : List deep_items.Item) (between rest is : List Item) → Alike f a ds is
          → EndsAs program f txt false (IndexLeaf f a txt (InGlobalElement g) v between rest is) NoCall between globals names items e → Going f txt globals names items e (IndexesGlobal g v) ds
      Deciding : (globals names : Rows) (items : List Item) (e : Evaluation) (a : Agreement) (use_ : Use) (ds first second : List deep_items.Item) (rest one other : List Item) → Decides use_ ds first second → Alike f a first one → Alike f a second other
          → EndsAs program f txt false (DecideLeaf f a txt rest one other) NoCall rest globals names items e → Going f txt globals names items e use_ ds
      Returning : (globals names : Rows) (items : List Item) (e : Evaluation) (a : Agreement) (ds : List deep_items.Item) (rest is : List Item)
          → EndsAs program f txt true (ReturnLeaf f txt rest is) (CallLeaf f a txt Returned rest is) rest globals names items e → Going f txt globals names items e Returns ds

    -- what is to do in a frame of the text, and in the tree
    pub data FrameStands (f : ℕ) (globals txt names : Rows) : List deep_items.Item → List Item → Type 0 where
      Still : (a : Agreement) (ds : List deep_items.Item) (is : List Item) → Words f a txt names → Alike f a ds is → FrameStands f globals txt names ds is
      GoingOn : (around : List Around) (word : ℕ) (use_ : Use) (ds : List deep_items.Item) (items : List Item) → Going f txt globals names items (go_on txt globals around word) use_ ds → FrameStands f globals txt names (deep_items.GoOn around word use_ ∷ ds) items
      Giving : (word : ℕ) (ds : List deep_items.Item) → FrameStands f globals txt names (deep_items.GoOn [] word Returns ∷ ds) (GiveBackWord word ∷ [])

    -- the tree comes in silence to where its first frame stands for the text's, or both are to stop with a trap
    pub record Stood (d : DeepRunning) (s : Running) : Type 0 where
      pub names : Rows
      pub items : List Item
      pub leads : Leads program s (at program d.frame.function s.below d.globals names items)
      pub stands : FrameStands d.frame.function d.globals d.frame.names names d.frame.to_do items

    pub record Failed (d : DeepRunning) (s : Running) : Type 0 where
      pub trap : TrapKind
      pub rest : List deep_items.Item
      pub fails : d.frame.to_do ≡ deep_items.Fail trap ∷ rest
      pub steps : ℕ
      pub stops : moves (source_machine program) steps s ≡ Stops (record { trap = Some trap; globals = d.globals })

    abbrev pub Reached : DeepRunning → Running → Type 0
    Reached d s = Stood d s ⊎ Failed d s

    -- two frames wait alike: at the same site, and for every result they go on alike
    pub record WaitsAlike (w : DeepWaitingFrame) (x : WaitingFrame) : Type 0 where
      pub site : w.site ≡ x.site
      pub goes_on : (unders : List DeepWaitingFrame) (others : List WaitingFrame) (globals : Rows) (word : ℕ) → Reached (deep_steps.delivered w unders globals word) (delivered x others globals word)

    pub data BelowAlike : List DeepWaitingFrame → List WaitingFrame → Type 0 where
      NoneBelow : BelowAlike [] []
      OneBelow : (w : DeepWaitingFrame) (x : WaitingFrame) (ws : List DeepWaitingFrame) (xs : List WaitingFrame) → WaitsAlike w x → BelowAlike ws xs → BelowAlike (w ∷ ws) (x ∷ xs)

    pub record RunsAlike (d : DeepRunning) (s : Running) : Type 0 where
      pub frame : Reached d s
      pub below : BelowAlike d.below s.below

    pub record WaitAlike (w : DeepWaiting) (x : Waiting) : Type 0 where
      pub front : WaitsAlike w.front x.front
      pub below : BelowAlike w.below x.below
