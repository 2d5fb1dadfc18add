-- The items of a statement of the text and of what stands for it in the tree are alike, and so are the turns of loops.
use Rattle.hoist_meaning.proofs.Common.{ℕ, ◌+◌, ◌≡◌, refl, subst, Bool, List, [], ◌∷◌, ◌++◌, map, Option, Some, None, option_map, RawExprTree, RawCall, RawTableCall, RawSimpleTree, RawDeclareScalar, RawDeclareArray, RawDeclareWith, RawSet, RawSetElement, RawCalling, RawTableCalling, raw_in_order, ExprTree, RightTree, SimpleTree, ProgramTree, IsSimpleWhole, Item, Loop, Simply, Test, InLocalElement, InGlobalElement, expr_of, Spot, simple_numbered, stmts_numbered, DeepExpr, DeepSimple, DeepProgram, calls_in, holds_nested, is_named, names_in, part_after, part_named, left_of, before, value_before, simple_left, simple_before, held_not, simple_kept, no_simple_before}
use Rattle.c_mean.specs.ToDo as items
use Rattle.scope_rules.specs.Simples as tree_simples
use Rattle.scope_rules.specs.Statements as tree_stmts
use Rattle.deep_mean.specs.DeepToDo as deep_items
use Rattle.deep_mean.specs.Naming as deep
use Rattle.hoist_meaning.proofs.Bindings.{Agreement}
use Rattle.hoist_meaning.proofs.Items.{items_of, after}
use Rattle.hoist_meaning.proofs.Premises.{after_part, side_left, index_tree}
use Rattle.hoist_meaning.proofs.Alike.{ElementGoes, ItemsAlike}
use Rattle.hoist_meaning.proofs.Goes.{OwnElement, side_goes, between_of, element_goes}
use Rattle.hoist_meaning.proofs.Sound.{ElementBoth, OneSide, OneZeroed, SimpleSound, PartsSound, TurnSound, StepSound}
use Rattle.hoist_meaning.proofs.Turns.{passes_over, LoopSound, test_goes}

-- where the innermost loop leads
pub data Led : Option Agreement → List Agreement → Type 0 where
  NoLoop : (os : List Agreement) → Led None os
  InLoop : (o : Agreement) (os : List Agreement) → Led (Some o) (o ∷ os)

module _ (text : DeepProgram) (program : ProgramTree) (ns : List ℕ) where
  abbrev pub Loops : ℕ → List Agreement → Agreement → deep_items.Loop → Loop → Type 0
  Loops f os a loop there = LoopSound text program ns f a loop there

  module _ (f : ℕ) where
    abbrev pub A : List Agreement → Agreement → List deep_items.Item → List Item → Type 0
    A os a ds is = ItemsAlike text program Loops f os a ds is

    -- ---- simple statements

    side_items : (a b : Agreement) (k : ℕ) (s t : Spot) (p : RawSimpleTree) (e : RawExprTree) (os : List Agreement) (ds : List deep_items.Item) (is : List Item) → simple_before k p ≡ value_before k e → OneSide text program ns f a b k s t p e → A os b ds is
        → A os a (deep_items.Simply (deep.simple_of s p) ∷ ds) (items_of ns t (value_before k e) (Simply (simple_numbered ns (tree_simples.simple_of (after t (simple_before k p)) (simple_left k p))) ∷ is))
    side_items a b k s t p e os ds is same h rest =
        let own = simple_numbered ns (tree_simples.simple_of (after t (simple_before k p)) (simple_left k p)) in
        ItemsAlike.Storing os a h.middle h.from h.to (deep.simple_of s p) (deep.expr_of s.names s.site e) ds (Simply own ∷ is) is (items_of ns t (value_before k e) (Simply own ∷ is)) h.in_text h.places
        (side_goes text program f ns h.side.gives h.side.loop h.side.is_used a k h.side.variables e s t own h.to is h.side.scope h.side.sound h.in_tree)
        (passes_over (stmts_numbered ns (tree_stmts.stmts_of t (raw_in_order (value_before k e)))) (Simply own ∷ is) is (record { leaves = λ n. refl; skips = λ n. refl }))
        (ItemsAlike.Outer os b h.middle ds is h.within rest)

    element_row : (a : Agreement) (k v : ℕ) (gives loop : Bool) (s t : Spot) (i e : RawExprTree) (os : List Agreement) (ds : List deep_items.Item) (is : List Item) (d : DeepSimple) (index value_ : DeepExpr) (own : SimpleTree) (x : ExprTree) (r : RightTree) → ElementBoth a d index value_ own x r
        → ((q : ℕ → _) → OwnElement own x r q → ElementGoes text program f a q index value_ (between_of text program f ns gives loop a k v i e s t own q is) (Simply own ∷ is) is
        (items_of ns t (before k i ++ part_named (is_named (holds_nested e) i) (k + names_in i) (left_of k i) ++ value_before (part_after k (holds_nested e) i) e) (Simply own ∷ is)))
        → A os a ds is → A os a (deep_items.Simply d ∷ ds) (items_of ns t (before k i ++ part_named (is_named (holds_nested e) i) (k + names_in i) (left_of k i) ++ value_before (part_after k (holds_nested e) i) e) (Simply own ∷ is))
    element_row a k v gives loop s t i e os ds is d index value_ own x r (ElementBoth.InVariable n m y z _ _ _ _ below pair) goes rest =
        let ss = before k i ++ part_named (is_named (holds_nested e) i) (k + names_in i) (left_of k i) ++ value_before (part_after k (holds_nested e) i) e in
        ItemsAlike.ElementLocal os a n m y z index value_ ds (between_of text program f ns gives loop a k v i e s t own (InLocalElement z) is) (Simply own ∷ is) is (items_of ns t ss (Simply own ∷ is)) below pair
        (goes (InLocalElement z) (OwnElement.SetsLocalElement z x r))
        (passes_over (stmts_numbered ns (tree_stmts.stmts_of t (raw_in_order ss))) (Simply own ∷ is) is (record { leaves = λ n. refl; skips = λ n. refl })) rest
    element_row a k v gives loop s t i e os ds is d index value_ own x r (ElementBoth.InGlobalArray g _ _ _ _) goes rest =
        let ss = before k i ++ part_named (is_named (holds_nested e) i) (k + names_in i) (left_of k i) ++ value_before (part_after k (holds_nested e) i) e in
        ItemsAlike.ElementGlobal os a g index value_ ds (between_of text program f ns gives loop a k v i e s t own (InGlobalElement g) is) (Simply own ∷ is) is (items_of ns t ss (Simply own ∷ is))
        (goes (InGlobalElement g) (OwnElement.SetsGlobalElement g x r))
        (passes_over (stmts_numbered ns (tree_stmts.stmts_of t (raw_in_order ss))) (Simply own ∷ is) is (record { leaves = λ n. refl; skips = λ n. refl })) rest

    zeroed_items : (a b : Agreement) (s t : Spot) (p : RawSimpleTree) (os : List Agreement) (ds : List deep_items.Item) (is : List Item) → OneZeroed text program ns f a b s t p → A os b ds is
        → A os a (deep_items.Simply (deep.simple_of s p) ∷ ds) (Simply (simple_numbered ns (tree_simples.simple_of t p)) ∷ is)
    zeroed_items a b s t p os ds is h rest =
        ItemsAlike.Zeroing os a h.middle (deep.simple_of s p) (simple_numbered ns (tree_simples.simple_of t p)) ds is h.zeroes (ItemsAlike.Outer os b h.middle ds is h.within rest)

    pub simple_items : (a b : Agreement) (k : ℕ) (s t : Spot) (p : RawSimpleTree) (os : List Agreement) (ds : List deep_items.Item) (is : List Item) → SimpleSound text program ns f a b k s t p → A os b ds is
        → A os a (deep_items.Simply (deep.simple_of s p) ∷ ds) (items_of ns t (simple_before k p) (Simply (simple_numbered ns (tree_simples.simple_of (after t (simple_before k p)) (simple_left k p))) ∷ is))
    simple_items a b k s t (RawDeclareScalar n) os ds is h rest = zeroed_items a b s t (RawDeclareScalar n) os ds is h rest
    simple_items a b k s t (RawDeclareArray n size) os ds is h rest = zeroed_items a b s t (RawDeclareArray n size) os ds is h rest
    simple_items a b k s t (RawDeclareWith n v) os ds is h rest = side_items a b k s t (RawDeclareWith n v) v os ds is refl h rest
    simple_items a b k s t (RawSet n v) os ds is h rest = side_items a b k s t (RawSet n v) v os ds is refl h rest
    simple_items a b k s t (RawSetElement n i v) os ds is h rest =
        let own = simple_numbered ns (tree_simples.simple_of (after t (simple_before k (RawSetElement n i v))) (simple_left k (RawSetElement n i v))) in
        element_row a k h.variables h.gives h.loop s t i v os ds is (deep.simple_of s (RawSetElement n i v)) (deep.expr_of s.names s.site i) (deep.expr_of s.names (s.site + calls_in i) v) own (index_tree t k i v)
        (side_left ns (after_part t k (holds_nested v) i) (part_after k (holds_nested v) i) v) h.both
        (λ q owns. element_goes text program f ns h.gives h.loop a k h.variables i v s t own q is h.scope h.sound owns) (ItemsAlike.Outer os b a ds is h.within rest)
    simple_items a b k s t (RawCalling n es) os ds is h rest = side_items a b k s t (RawCalling n es) (RawCall n es) os ds is refl h rest
    simple_items a b k s t (RawTableCalling n i e) os ds is h rest = side_items a b k s t (RawTableCalling n i e) (RawTableCall n i e) os ds is refl h rest

    -- one whose calls are whole stays as it is
    whole_items : (a b : Agreement) (k : ℕ) (s t : Spot) (p : RawSimpleTree) (os : List Agreement) (ds : List deep_items.Item) (is : List Item) → IsSimpleWhole p → SimpleSound text program ns f a b k s t p → A os b ds is
        → A os a (deep_items.Simply (deep.simple_of s p) ∷ ds) (Simply (simple_numbered ns (tree_simples.simple_of t p)) ∷ is)
    whole_items a b k s t p os ds is whole h rest =
        let same : items_of ns t (simple_before k p) (Simply (simple_numbered ns (tree_simples.simple_of (after t (simple_before k p)) (simple_left k p))) ∷ is) ≡ Simply (simple_numbered ns (tree_simples.simple_of t p)) ∷ is =
        (λ j. items_of ns t (no_simple_before k p whole j) (Simply (simple_numbered ns (tree_simples.simple_of (after t (no_simple_before k p whole j)) (simple_kept k p whole j))) ∷ is)) in
        subst (λ there. A os a (deep_items.Simply (deep.simple_of s p) ∷ ds) there) same (simple_items a b k s t p os ds is h rest)

    pub parts_items : (a c : Agreement) (k : ℕ) (s t : Spot) (ps : List RawSimpleTree) (os : List Agreement) (ds : List deep_items.Item) (is : List Item) → PartsSound text program ns f a c k s t ps → A os c ds is
        → A os a (map deep_items.Simply (deep.simples_of s ps) ++ ds) (map Simply (map (simple_numbered ns) (tree_simples.simples_of t ps)) ++ is)
    parts_items a c k s t [] os ds is h rest = ItemsAlike.Outer os c a ds is h rest
    parts_items a c k s t (p ∷ ps) os ds is h rest =
        whole_items a h.0 k s t p os (map deep_items.Simply (deep.simples_of (deep.simple_after s p) ps) ++ ds) (map Simply (map (simple_numbered ns) (tree_simples.simples_of (tree_simples.simple_after t p) ps)) ++ is) h.1 h.2
        (parts_items h.0 c k (deep.simple_after s p) (tree_simples.simple_after t p) ps os ds is h.3 rest)

    pub step_items : (a : Agreement) (k : ℕ) (s t : Spot) (step : Option RawSimpleTree) (os : List Agreement) (ds : List deep_items.Item) (is : List Item) → StepSound text program ns f a k s t step → A os a ds is
        → A os a (deep_items.step_item (option_map (deep.simple_of s) step) ++ ds) (items.step_item (option_map (simple_numbered ns) (option_map (tree_simples.simple_of t) step)) ++ is)
    step_items a k s t None os ds is h rest = rest
    step_items a k s t (Some p) os ds is h rest = whole_items a a k s t p os ds is h.0 h.1 rest

    -- a turn of a `for` begins
    pub turn_items : (a : Agreement) (k : ℕ) (s t : Spot) (c : Option RawExprTree) (loop : deep_items.Loop) (there : Loop) (os : List Agreement) (ds body : List deep_items.Item) (is one : List Item) → body ≡ deep_items.body_before loop ds → one ≡ items.body_before there is
        → TurnSound text program ns f a k s t c → A (a ∷ os) a body one → A os a ds is → A os a (deep_items.begun (option_map (deep.expr_of s.names s.site) c) loop body ds) (items.begun (option_map (expr_of t.names) c) there one is)
    turn_items a k s t None loop there os ds body is one same also h inner rest = ItemsAlike.Entering os a a body one inner
    turn_items a k s t (Some e) loop there os ds body is one same also h inner rest =
        ItemsAlike.Testing os a (deep.expr_of s.names s.site e) loop ds (Test (expr_of t.names e) there ∷ is) (items.body_before there is) is (Test (expr_of t.names e) there ∷ is)
        (test_goes text program ns f a k e s t there is (held_not e h.0) h.1) (record { leaves = λ n. refl; skips = λ n. refl }) (subst (λ there'. A (a ∷ os) a (deep_items.body_before loop ds) there') also (subst (λ ds'. A (a ∷ os) a ds' one) same inner)) rest
