-- How the evaluations of a statement's expressions end, told by what the statement's own item does then.
use Rattle.hoist_meaning.proofs.Common.{ℕ, zero, suc, ◌+◌, ◌≤◌, ◌<◌, ◌≡◌, refl, sym, ap, ◌∙◌, Bool, true, false, List, [], ◌∷◌, ◌++◌, Some, Ok, Err, slice_index, slice_index_or, call_of, spawn_of, Stops, and_then, moves, TrapKind, number_of, RawExprTree, ExprTree, CallTree, CallFunction, CallTable, CallSpawn, CallModelled, RightTree, Computed, Called, SimpleTree, StmtTree, ProgramTree, Value, value, values, with_first, Item, Simply, Choose, GiveBack, Place, Nowhere, InLocal, InGlobal, InLocalElement, InGlobalElement, Returned, WaitingFrame, Running, function_at, SourceMove, on_value, assigned, assigns, asks, asks_if, branched, called, entered, entered_by, returned, source_step, source_machine, expr_of, Spot, DeepProgram, Ready, Trapped, calls_in, holds_nested, is_named, names_in, part_after, part_named, left_of, before, value_names, value_before}
use Rattle.c_tree.specs.Trees as tree
use Rattle.c_mean.specs.ToDo as items
use Rattle.deep_mean.specs.Naming as deep
use Rattle.hoist_meaning.proofs.Bindings.{Agreement, in_text}
use Rattle.hoist_meaning.proofs.Items.{items_of, after, at, call_parts}
use Rattle.hoist_meaning.proofs.Spots.{StandsAt, with_names, before_stands}
use Rattle.hoist_meaning.proofs.Extends.{TreeBelow, pair_below}
use Rattle.hoist_meaning.proofs.Ends.{Rows, NoCall, StopsAt, stops_on, EndsAs, told_ends}
use Rattle.hoist_meaning.proofs.Premises.{after_part, Keeps, KnowsSpawnAlone, IsPlaced, IsSound, IsLeft, IsSideSound, side_left, SideIs, SideCalls, IsSideLeft, IsSideCall, IsElementSound, index_tree, IsElementLeft, IsElementCall, IsIndexLeft}
use Rattle.hoist_meaning.proofs.Evaluations.{evaluation_alike, side_alike, element_alike, AfterIndex}
use Rattle.hoist_meaning.proofs.Frames.{first_call, Words, StoreLeaf, CallLeaf, DecideLeaf, DecidesBy, ReturnLeaf, IndexLeaf}
use Rattle.hoist_meaning.proofs.Alike.{SideGoes, ElementGoes, CondGoes, ReturnGoes}

-- the tree's own statement, whose right side goes to a place
pub data OwnSide : SimpleTree → RightTree → Place → Type 0 where
  Declares : (x : ℕ) (r : RightTree) → OwnSide (tree.DeclareWith x r) r (InLocal x)
  SetsLocal : (x : ℕ) (r : RightTree) → OwnSide (tree.SetLocal x r) r (InLocal x)
  SetsGlobal : (g : ℕ) (r : RightTree) → OwnSide (tree.SetGlobal g r) r (InGlobal g)
  JustCalls : (c : CallTree) → OwnSide (tree.Calling c) (Called c) Nowhere

-- an element that is set in the tree, and where it is by its index
pub data OwnElement : SimpleTree → ExprTree → RightTree → (ℕ → Place) → Type 0 where
  SetsLocalElement : (x : ℕ) (i : ExprTree) (r : RightTree) → OwnElement (tree.SetLocalElement x i r) i r (InLocalElement x)
  SetsGlobalElement : (g : ℕ) (i : ExprTree) (r : RightTree) → OwnElement (tree.SetGlobalElement g i r) i r (InGlobalElement g)

module _ (text : DeepProgram) (program : ProgramTree) (f : ℕ) where
  -- Where a statement of the text stands, and what is left of it in the tree: the same names are in scope by an agreement, v variables of the
  -- tree were declared so far, and the next ones have one word each.
  pub record Scope (a : Agreement) (v room : ℕ) (s t : Spot) : Type 0 where
    pub place : StandsAt a v t
    pub text_names : in_text a ≡ s.names
    pub below : TreeBelow v a
    pub few : v + room ≤ 65536
    pub wide : (y : ℕ) → v ≤ y → y < v + room → slice_index (function_at program f).sizes y ≡ 1
    pub spawns : KnowsSpawnAlone s.names

  placed : (a : Agreement) (v room : ℕ) (s t : Spot) (txt names : Rows) → Scope a v room s t → Words text program f a txt names → IsPlaced txt names s.names a v room t
  placed a v room s t txt names h words = record {
    place = h.place;
    text_names = h.text_names;
    below = h.below;
    alike = words.stand;
    few = h.few;
    wide = λ y low high. words.tree_wide y ∙ h.wide y low high;
  }

  kept : (a : Agreement) (v room : ℕ) (s t : Spot) (txt names after_ : Rows) → Scope a v room s t → Words text program f a txt names → Keeps v names after_ → Words text program f a txt after_
  kept a v room s t txt names after_ h words keeps = record {
    stand = λ x y p. words.stand x y p ∙ sym (keeps.words y (pair_below v a x y h.below p));
    text_wide = words.text_wide;
    tree_wide = λ y. keeps.widths y ∙ words.tree_wide y;
  }

  pub one_stop : (txt globals names : Rows) (rest : List Item) (trap : TrapKind) → ((below : List WaitingFrame) → source_step program (at program f below globals names rest) ≡ Stops (record { trap = Some trap; globals = globals })) → StopsAt program f txt globals names rest trap
  one_stop txt globals names rest trap e = record { stops = λ below. (1, ap (λ m. and_then m (moves (source_machine program) 0)) (e below)) }

  -- ---- a condition

  choice_decides : (txt globals names : Rows) (c : ExprTree) (s r : StmtTree) (is : List Item) (outcome : Value) → value names globals c ≡ outcome → DecidesBy text program f txt (Choose c s r ∷ is) (items.before s is) (items.before r is) globals names outcome
  choice_decides txt globals names c s r is (Ok zero) e = λ below. (
    0,
    ap (λ v. and_then (on_value (at program f below globals names is) v (branched (at program f below globals names is) (items.before s is) (items.before r is))) (moves (source_machine program) 0)) e,
  )
  choice_decides txt globals names c s r is (Ok (suc word)) e = λ below. (
    0,
    ap (λ v. and_then (on_value (at program f below globals names is) v (branched (at program f below globals names is) (items.before s is) (items.before r is))) (moves (source_machine program) 0)) e,
  )
  choice_decides txt globals names c s r is (Err trap) e =
      one_stop txt globals names (Choose c s r ∷ is) trap (λ below. ap (λ v. on_value (at program f below globals names is) v (branched (at program f below globals names is) (items.before s is) (items.before r is))) e)

  -- what is left of a condition, where it stands, decides as it says
  pub condition_goes : (ns : List ℕ) (gives loop : Bool) (a : Agreement) (k v : ℕ) (e : RawExprTree) (s t : Spot) (rest one other : List Item) → Scope a v (names_in e) s t → IsSound ns gives loop a k v s.site e t
      → ((txt globals names : Rows) (outcome : Value) → value names globals (expr_of (after t (before k e)).names (left_of k e)) ≡ outcome → DecidesBy text program f txt rest one other globals names outcome)
      → CondGoes text program f a (deep.expr_of s.names s.site e) rest one other (items_of ns t (before k e) rest)
  condition_goes ns gives loop a k v e s t rest one other scope sound decides = λ globals txt names words.
      let b = with_names k v e a in
      let place = before_stands a k v e t scope.place scope.few in
      told_ends program f txt false (IsLeft v b (left_of k e) names) (DecideLeaf text program f a txt rest one other) NoCall NoCall rest
      (λ others later outcome leaf. record {
        words = kept a v (names_in e) s t txt names later scope words leaf.keeps;
        goes = decides txt others later outcome (ap (λ bs. value later others (expr_of bs (left_of k e))) place.names ∙ leaf.is);
      })
      (λ others later call none. none)
      (evaluation_alike program ns f txt s.names scope.spawns gives loop false a k v s.site e t globals names rest tt (placed a v (names_in e) s t txt names scope words) sound)

  pub choice_goes : (ns : List ℕ) (gives loop : Bool) (a : Agreement) (k v : ℕ) (e : RawExprTree) (s t : Spot) (yes_ no_ : StmtTree) (is : List Item) → Scope a v (names_in e) s t → IsSound ns gives loop a k v s.site e t
      → CondGoes text program f a (deep.expr_of s.names s.site e) (Choose (expr_of (after t (before k e)).names (left_of k e)) yes_ no_ ∷ is) (items.before yes_ is) (items.before no_ is)
      (items_of ns t (before k e) (Choose (expr_of (after t (before k e)).names (left_of k e)) yes_ no_ ∷ is))
  choice_goes ns gives loop a k v e s t yes_ no_ is scope sound =
      condition_goes ns gives loop a k v e s t (Choose (expr_of (after t (before k e)).names (left_of k e)) yes_ no_ ∷ is) (items.before yes_ is) (items.before no_ is) scope sound
      (λ txt globals names outcome h. choice_decides txt globals names (expr_of (after t (before k e)).names (left_of k e)) yes_ no_ is outcome h)

  -- ---- a right side

  abbrev Trapped_at : Rows → TrapKind → SourceMove
  Trapped_at globals trap = Stops (record { trap = Some trap; globals = globals })

  two_traps : (first second : Value) (globals : Rows) (trap : TrapKind) (thread : Running) (use_it : ℕ → ℕ → SourceMove) → thread.globals ≡ globals → with_first first (with_first second (Ok [])) ≡ Err trap
      → on_value thread first (λ i. on_value thread second (λ e. use_it i e)) ≡ Trapped_at globals trap
  two_traps (Ok i) (Ok e) globals trap thread use_it same h = absurd cc
  two_traps (Ok i) (Err other) globals trap thread use_it same h = let t : other ≡ trap = cc in (λ j. Stops (record { trap = Some (t j); globals = same j }))
  two_traps (Err other) second globals trap thread use_it same h = let t : other ≡ trap = cc in (λ j. Stops (record { trap = Some (t j); globals = same j }))

  one_trap : (first : Value) (globals : Rows) (trap : TrapKind) (thread : Running) (use_it : ℕ → SourceMove) → thread.globals ≡ globals → with_first first (Ok []) ≡ Err trap → on_value thread first use_it ≡ Trapped_at globals trap
  one_trap (Ok i) globals trap thread use_it same h = absurd cc
  one_trap (Err other) globals trap thread use_it same h = let t : other ≡ trap = cc in (λ j. Stops (record { trap = Some (t j); globals = same j }))

  -- a call whose parts meet a trap
  call_traps : (c : CallTree) (q : Place) (globals names : Rows) (is : List Item) (trap : TrapKind) (below : List WaitingFrame) → values names globals (call_parts c) ≡ Err trap → called program (at program f below globals names is) q c ≡ Trapped_at globals trap
  call_traps (CallFunction k g es) q globals names is trap below h = ap (λ v. on_value (at program f below globals names is) v (λ arguments. entered program (at program f below globals names is) k q g arguments)) h
  call_traps (CallTable k u i e) q globals names is trap below h = two_traps (value names globals i) (value names globals e) globals trap (at program f below globals names is)
      (λ index argument. entered_by (slice_index_or program.tables u []) program (at program f below globals names is) k q index argument) refl h
  call_traps (CallSpawn k g e) q globals names is trap below h = one_trap (value names globals e) globals trap (at program f below globals names is) (λ argument. asks (at program f below globals names is) k q (spawn_of g argument)) refl h
  call_traps (CallModelled k m es) q globals names is trap below h = ap (λ v. on_value (at program f below globals names is) v (λ arguments. asks_if (at program f below globals names is) k q (call_of (number_of m) arguments))) h

  -- what a right side does whose outcome is this
  side_stores : (r : RightTree) (q : Place) (globals names : Rows) (is : List Item) (word : ℕ) (below : List WaitingFrame) → SideIs r globals names (Ok word) → assigns program (at program f below globals names is) q r ≡ assigned (at program f below globals names is) q word
  side_stores (Computed e) q globals names is word below h = ap (λ v. on_value (at program f below globals names is) v (assigned (at program f below globals names is) q)) h
  side_stores (Called c) q globals names is word below h = absurd h

  side_traps : (r : RightTree) (q : Place) (globals names : Rows) (is : List Item) (trap : TrapKind) (below : List WaitingFrame) → SideIs r globals names (Err trap) → assigns program (at program f below globals names is) q r ≡ Trapped_at globals trap
  side_traps (Computed e) q globals names is trap below h = ap (λ v. on_value (at program f below globals names is) v (assigned (at program f below globals names is) q)) h
  side_traps (Called c) q globals names is trap below h = call_traps c q globals names is trap below h

  own_does : (t : SimpleTree) (r : RightTree) (q : Place) (globals names : Rows) (is : List Item) (below : List WaitingFrame) → OwnSide t r q → source_step program (at program f below globals names (Simply t ∷ is)) ≡ assigns program (at program f below globals names is) q r
  own_does t r q globals names is below (OwnSide.Declares x _) = refl
  own_does t r q globals names is below _ = refl

  own_call : (t : SimpleTree) (c : CallTree) (q : Place) (is : List Item) → OwnSide t (Called c) q → first_call (Simply t ∷ is) ≡ Some c
  own_call t c q is (OwnSide.Declares x _) = refl
  own_call t c q is _ = refl

  side_leaf : (a : Agreement) (txt globals names : Rows) (t : SimpleTree) (r : RightTree) (q : Place) (is : List Item) (outcome : Value) → OwnSide t r q → Words text program f a txt names → SideIs r globals names outcome → StoreLeaf text program f a txt q (Simply t ∷ is) is globals names outcome
  side_leaf a txt globals names t r q is (Ok word) own words h = record { words = words; goes = λ below. own_does t r q globals names is below own ∙ side_stores r q globals names is word below h }
  side_leaf a txt globals names t r q is (Err trap) own words h =
      record { words = words; goes = one_stop txt globals names (Simply t ∷ is) trap (λ below. own_does t r q globals names is below own ∙ side_traps r q globals names is trap below h) }

  side_call : (a : Agreement) (txt globals names : Rows) (t : SimpleTree) (r : RightTree) (q : Place) (is : List Item) (call : Ready) → OwnSide t r q → Words text program f a txt names → SideCalls r globals names call → CallLeaf text program f a txt q (Simply t ∷ is) is globals names call
  side_call a txt globals names t (Computed e) q is call own words h = absurd h
  side_call a txt globals names t (Called c) q is call own words h = record { words = words; made = c; alike = h; first = own_call t c q is own; goes = λ below. own_does t (Called c) q globals names is below own }

  pub side_goes : (ns : List ℕ) (gives loop used_ : Bool) (a : Agreement) (k v : ℕ) (e : RawExprTree) (s t : Spot) (own : SimpleTree) (q : Place) (is : List Item) → Scope a v (value_names e) s t → IsSideSound ns gives loop used_ a k v s.site e t → OwnSide own (side_left ns t k e) q
      → SideGoes text program f a q (deep.expr_of s.names s.site e) (Simply own ∷ is) is (items_of ns t (value_before k e) (Simply own ∷ is))
  side_goes ns gives loop used_ a k v e s t own q is scope sound owns = λ globals txt names words.
      told_ends program f txt true (IsSideLeft v (side_left ns t k e) names) (StoreLeaf text program f a txt q (Simply own ∷ is) is) (IsSideCall v (side_left ns t k e) names) (CallLeaf text program f a txt q (Simply own ∷ is) is) (Simply own ∷ is)
      (λ others later outcome leaf. side_leaf a txt others later own (side_left ns t k e) q is outcome owns (kept a v (value_names e) s t txt names later scope words leaf.keeps) leaf.is)
      (λ others later call leaf. side_call a txt others later own (side_left ns t k e) q is call owns (kept a v (value_names e) s t txt names later scope words leaf.keeps) leaf.is)
      (side_alike program ns f txt s.names scope.spawns gives loop used_ a k v s.site e t globals names (Simply own ∷ is) (placed a v (value_names e) s t txt names scope words) sound)

  -- ---- a returned value

  return_leaf : (txt globals names : Rows) (r : RightTree) (is : List Item) (outcome : Value) → SideIs r globals names outcome → ReturnLeaf text program f txt (GiveBack (Some r) ∷ is) is globals names outcome
  return_leaf txt globals names (Computed e) is (Ok word) h = record { goes = λ below. ap (λ v. on_value (at program f below globals names is) v (returned (at program f below globals names is) below)) h }
  return_leaf txt globals names (Computed e) is (Err trap) h = record { goes = one_stop txt globals names (GiveBack (Some (Computed e)) ∷ is) trap (λ below. ap (λ v. on_value (at program f below globals names is) v (returned (at program f below globals names is) below)) h) }
  return_leaf txt globals names (Called c) is (Ok word) h = absurd h
  return_leaf txt globals names (Called c) is (Err trap) h = record { goes = one_stop txt globals names (GiveBack (Some (Called c)) ∷ is) trap (λ below. call_traps c Returned globals names is trap below h) }

  return_call : (a : Agreement) (txt globals names : Rows) (r : RightTree) (is : List Item) (call : Ready) → Words text program f a txt names → SideCalls r globals names call → CallLeaf text program f a txt Returned (GiveBack (Some r) ∷ is) is globals names call
  return_call a txt globals names (Computed e) is call words h = absurd h
  return_call a txt globals names (Called c) is call words h = record { words = words; made = c; alike = h; first = refl; goes = λ below. refl }

  pub return_goes : (ns : List ℕ) (gives loop used_ : Bool) (a : Agreement) (k v : ℕ) (e : RawExprTree) (s t : Spot) (is : List Item) → Scope a v (value_names e) s t → IsSideSound ns gives loop used_ a k v s.site e t
      → ReturnGoes text program f a (deep.expr_of s.names s.site e) (GiveBack (Some (side_left ns t k e)) ∷ is) is (items_of ns t (value_before k e) (GiveBack (Some (side_left ns t k e)) ∷ is))
  return_goes ns gives loop used_ a k v e s t is scope sound = λ globals txt names words.
      let own = GiveBack (Some (side_left ns t k e)) in
      told_ends program f txt true (IsSideLeft v (side_left ns t k e) names) (ReturnLeaf text program f txt (own ∷ is) is) (IsSideCall v (side_left ns t k e) names) (CallLeaf text program f a txt Returned (own ∷ is) is) (own ∷ is)
      (λ others later outcome leaf. return_leaf txt others later (side_left ns t k e) is outcome leaf.is)
      (λ others later call leaf. return_call a txt others later (side_left ns t k e) is call (kept a v (value_names e) s t txt names later scope words leaf.keeps) leaf.is)
      (side_alike program ns f txt s.names scope.spawns gives loop used_ a k v s.site e t globals names (own ∷ is) (placed a v (value_names e) s t txt names scope words) sound)

  -- ---- an element

  element_does : (t : SimpleTree) (i : ExprTree) (r : RightTree) (q : ℕ → Place) (globals names : Rows) (is : List Item) (below : List WaitingFrame) → OwnElement t i r q
      → source_step program (at program f below globals names (Simply t ∷ is)) ≡ on_value (at program f below globals names is) (value names globals i) (λ index. assigns program (at program f below globals names is) (q index) r)
  element_does t i r q globals names is below (OwnElement.SetsLocalElement x _ _) = refl
  element_does t i r q globals names is below (OwnElement.SetsGlobalElement g _ _) = refl

  element_call : (t : SimpleTree) (i : ExprTree) (c : CallTree) (q : ℕ → Place) (is : List Item) → OwnElement t i (Called c) q → first_call (Simply t ∷ is) ≡ Some c
  element_call t i c q is (OwnElement.SetsLocalElement x _ _) = refl
  element_call t i c q is (OwnElement.SetsGlobalElement g _ _) = refl

  element_assigns : (t : SimpleTree) (i : ExprTree) (r : RightTree) (q : ℕ → Place) (globals names : Rows) (is : List Item) (index : ℕ) (below : List WaitingFrame) → OwnElement t i r q → value names globals i ≡ Ok index
      → source_step program (at program f below globals names (Simply t ∷ is)) ≡ assigns program (at program f below globals names is) (q index) r
  element_assigns t i r q globals names is index below own e =
      element_does t i r q globals names is below own ∙ ap (λ v. on_value (at program f below globals names is) v (λ j. assigns program (at program f below globals names is) (q j) r)) e

  element_leaf : (a : Agreement) (txt globals names : Rows) (t : SimpleTree) (i : ExprTree) (r : RightTree) (q : ℕ → Place) (is : List Item) (index : ℕ) (outcome : Value) → OwnElement t i r q → Words text program f a txt names → value names globals i ≡ Ok index → SideIs r globals names outcome
      → StoreLeaf text program f a txt (q index) (Simply t ∷ is) is globals names outcome
  element_leaf a txt globals names t i r q is index (Ok word) own words e h =
      record { words = words; goes = λ below. element_assigns t i r q globals names is index below own e ∙ side_stores r (q index) globals names is word below h }
  element_leaf a txt globals names t i r q is index (Err trap) own words e h =
      record { words = words; goes = one_stop txt globals names (Simply t ∷ is) trap (λ below. element_assigns t i r q globals names is index below own e ∙ side_traps r (q index) globals names is trap below h) }

  element_called : (a : Agreement) (txt globals names : Rows) (t : SimpleTree) (i : ExprTree) (r : RightTree) (q : ℕ → Place) (is : List Item) (index : ℕ) (call : Ready) → OwnElement t i r q → Words text program f a txt names → value names globals i ≡ Ok index → SideCalls r globals names call
      → CallLeaf text program f a txt (q index) (Simply t ∷ is) is globals names call
  element_called a txt globals names t i (Computed e') q is index call own words e h = absurd h
  element_called a txt globals names t i (Called c) q is index call own words e h =
      record { words = words; made = c; alike = h; first = element_call t i c q is own; goes = λ below. element_assigns t i (Called c) q globals names is index below own e }

  -- a trap of the index, told by where the function stops
  index_stops : (v : ℕ) (start globals names txt : Rows) (t : SimpleTree) (i : ExprTree) (r : RightTree) (q : ℕ → Place) (between is : List Item) (trap : TrapKind) → OwnElement t i r q
      → EndsAs program f txt true (IsIndexLeft v i start) NoCall (Simply t ∷ is) globals names between (Trapped trap) → StopsAt program f txt globals names between trap
  index_stops v start globals names txt t i r q between is trap own (EndsAs.Fails _ _ _ _ later comes leaf) =
      stops_on program f txt globals names later between (Simply t ∷ is) trap comes
      (one_stop txt globals later (Simply t ∷ is) trap (λ below. element_does t i r q globals later is below own ∙ ap (λ o. on_value (at program f below globals later is) o (λ index. assigns program (at program f below globals later is) (q index) r)) leaf.is))
  index_stops v start globals names txt t i r q between is trap own (EndsAs.Stopped _ _ _ _ stops) = stops

  module _ (ns : List ℕ) (gives loop : Bool) (a : Agreement) (k v : ℕ) (i e : RawExprTree) (s t : Spot) (own : SimpleTree) (q : ℕ → Place) (is : List Item) where
    abbrev pub between_of : List Item
    between_of = items_of ns (after_part t k (holds_nested e) i) (value_before (part_after k (holds_nested e) i) e) (Simply own ∷ is)

    abbrev pub side_of : RightTree
    side_of = side_left ns (after_part t k (holds_nested e) i) (part_after k (holds_nested e) i) e

    index_leaf : (spawns : KnowsSpawnAlone s.names) (txt names globals later : Rows) (outcome : Value) → ((after_ : Rows) → Keeps v names after_ → Words text program f a txt after_) → OwnElement own (index_tree t k i e) side_of q
        → AfterIndex program ns f txt s.names spawns gives loop k v s.site i e t names (Simply own ∷ is) globals later outcome → IndexLeaf text program f a txt q (deep.expr_of s.names (s.site + calls_in i) e) between_of (Simply own ∷ is) is globals later outcome
    index_leaf spawns txt names globals later (Ok index) words owns h =
        told_ends program f txt true (IsElementLeft v (index_tree t k i e) side_of names index) (StoreLeaf text program f a txt (q index) (Simply own ∷ is) is)
        (IsElementCall v (index_tree t k i e) side_of names index) (CallLeaf text program f a txt (q index) (Simply own ∷ is) is) (Simply own ∷ is)
        (λ others there outcome leaf. element_leaf a txt others there own (index_tree t k i e) side_of q is index outcome owns (words there leaf.keeps) leaf.index_is leaf.is)
        (λ others there call leaf. element_called a txt others there own (index_tree t k i e) side_of q is index call owns (words there leaf.keeps) leaf.index_is leaf.is) h
    index_leaf spawns txt names globals later (Err trap) words owns h = index_stops v names globals later txt own (index_tree t k i e) side_of q between_of is trap owns h

    pub element_goes : Scope a v (part_after 0 (holds_nested e) i + value_names e) s t → IsElementSound ns gives loop a k v s.site i e t → OwnElement own (index_tree t k i e) side_of q
        → ElementGoes text program f a q (deep.expr_of s.names s.site i) (deep.expr_of s.names (s.site + calls_in i) e) between_of (Simply own ∷ is) is
        (items_of ns t (before k i ++ part_named (is_named (holds_nested e) i) (k + names_in i) (left_of k i) ++ value_before (part_after k (holds_nested e) i) e) (Simply own ∷ is))
    element_goes scope sound owns = λ globals txt names words.
        let room = part_after 0 (holds_nested e) i + value_names e in
        told_ends program f txt false (AfterIndex program ns f txt s.names scope.spawns gives loop k v s.site i e t names (Simply own ∷ is)) (IndexLeaf text program f a txt q (deep.expr_of s.names (s.site + calls_in i) e) between_of (Simply own ∷ is) is) NoCall NoCall between_of
        (λ others later outcome leaf. index_leaf scope.spawns txt names others later outcome (λ there keeps. kept a v room s t txt names there scope words keeps) owns leaf)
        (λ others later call none. none)
        (element_alike program ns f txt s.names scope.spawns gives loop a k v s.site i e t globals names (Simply own ∷ is) (placed a v room s t txt names scope words) sound)
