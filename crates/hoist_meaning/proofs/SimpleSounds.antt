-- What is known of a place makes its right sides and its simple statements sound.
use Rattle.hoist_meaning.proofs.Common.{ℕ, ◌≡◌, ◌+◌, ◌≤◌, refl, sym, ap, subst, ◌∙◌, Bool, true, false, List, [], ◌∷◌, ◌++◌, append-nil, length, length-append, arith, slice_index, NameTree, RawExprTree, RawExprTrees, RawCall, RawTableCall, RawSimpleTree, RawDeclareScalar, RawDeclareArray, RawDeclareWith, RawSet, RawSetElement, RawCalling, RawTableCalling, RawDo, raw_in_order, ExprTree, RightTree, ProgramTree, Place, InLocal, InGlobal, Nowhere, function_at, Variable, find, is_fixed, is_scalar, is_array, variable_of, scalar_faults, array_faults, expr_faults, listed, expr_of, Spot, next_variable, declare_faults, simple_faults, set_scalar, set_element, simple_numbered, right_numbered, call_numbered, both_none, is_call, expr_places, simple_places, calls_in, counted, holds_nested, is_named, is_spawn, names_in, part_after, part_or, part_named, left_of, arguments_left, index_left, argument_left, before, value_names, value_left, value_before, simple_left, simple_before, left_whole, IsPlain, AreSourceNames}
use Rattle.c_tree.specs.Trees as tree
use Rattle.scope_rules.specs.Calls.{right_faults, right_of, call_of, table_call_of}
use Rattle.scope_rules.specs.Simples as tree_simples
use Rattle.deep_mean.specs.DeepTrees.{DeepExpr, DeclareScalar, DeclareArray, DeepProgram}
use Rattle.deep_mean.specs.DeepFrames as frames
use Rattle.deep_mean.specs.Naming as deep
use Rattle.hoist_meaning.proofs.KnownSpawn.{AreFine, both_fine, one_fine}
use Rattle.hoist_meaning.proofs.CallCounts.{part_places}
use Rattle.hoist_meaning.proofs.Bindings.{Agreement, in_text, in_tree, AreBelow, found_alike}
use Rattle.hoist_meaning.proofs.Items.{after, after_both}
use Rattle.hoist_meaning.proofs.Spots.{StandsAt, below_limit}
use Rattle.hoist_meaning.proofs.Declarations.{declared_or, BothStand, simple_declares, variables_of, simple_stands}
use Rattle.hoist_meaning.proofs.Extends.{extends_paired}
use Rattle.hoist_meaning.proofs.Premises.{after_part, with_value_names, with_element_names, side_faults, IsSideSound, side_left, index_tree, IsElementSound}
use Rattle.hoist_meaning.proofs.Parts.{three_fine}
use Rattle.hoist_meaning.proofs.PlainEnds.{VariablePair, variable_found, scalar_variable, array_variable}
use Rattle.hoist_meaning.proofs.TableEnds.{three_after}
use Rattle.hoist_meaning.proofs.SidePlaces.{value_place, value_extend, element_place}
use Rattle.hoist_meaning.proofs.Sizes.{Grows, grows_none, grows_on, stmts_grow, value_adds, element_adds}
use Rattle.hoist_meaning.proofs.SiteNumbers.{Occurs, occurs_first, occurs_second, occurs_as, TreeHas, tree_both, tree_three, calls_length, sites_stand, value_sites_stand}
use Rattle.hoist_meaning.proofs.Frames.{PlacesAlike}
use Rattle.hoist_meaning.proofs.Alike.{Within, SideSimple, Zeroes}
use Rattle.hoist_meaning.proofs.Goes.{OwnSide, Scope}
use Rattle.hoist_meaning.proofs.Fits.{PlaceFits, Whole, SideFits, SimpleFits, simple_hoisted}
use Rattle.hoist_meaning.proofs.Rising.{rise_more, value_rises, element_rises, extends_pair, scope_of, stand_later}
use Rattle.hoist_meaning.proofs.Sound.{SideSound, ElementBoth, SimpleSound}
use Rattle.hoist_meaning.proofs.SimpleFacts.{right_is_side, size_there, renumbered, simple_alone, declared_within, simple_more, element_extend}

module _ (text : DeepProgram) (program : ProgramTree) (ns text_calls tree_calls : List ℕ) (f : ℕ) (whole : Whole text program ns text_calls tree_calls f) (gives loop : Bool) where
  -- a right side or a returned value
  pub record SideEnds (a : Agreement) (k : ℕ) (s t : Spot) (e : RawExprTree) : Type 0 where
    pub next : Agreement
    pub sound : SideSound text program ns f a k s t e
    pub place : PlaceFits next (counted s (calls_in e)) (after t (value_before k e))
    pub fewer : Within next a
    pub more : Within a next

  pub side_sound : (used_ : Bool) (a : Agreement) (k : ℕ) (s t : Spot) (e : RawExprTree) → SideFits text program ns text_calls tree_calls f gives loop used_ a k s t e → SideEnds a k s t e
  side_sound used_ a k s t e h =
      let m = length t.sizes in
      let w = m + value_names e in
      let b = with_value_names k m e a in
      let u = after t (value_before k e) in
      let scope = scope_of text program f a (value_names e) s t u.sizes h.place (value_adds k e t) h.tree_sizes whole.tree_few in
      let place = value_place a k m e t h.place.stand.tree scope.few in
      let ext = value_extend k m e a in
      let sites = value_sites_stand ns tree_calls text_calls whole.numbers k s.site e t h.plain h.in_tree h.left_calls h.in_text in
      let sound : IsSideSound ns gives loop used_ a k m s.site e t = record { source = h.named; fine = h.fine; left_fine = ap (λ bs. side_faults used_ bs (value_left k e)) (sym place.names) ∙ h.left_fine; sites = sites } in
      record {
        next = b;
        sound = record { variables = m; gives = gives; loop = loop; is_used = used_; scope = scope; sound = sound };
        place = record { stand = stand_later a b k w s (counted s (calls_in e)) t u h.place refl refl ext place (value_rises (length s.sizes) k m e a h.place.stand.below); knows = h.place.knows };
        fewer = λ x y p. extends_paired k m w a b x y ext p;
        more = λ x y p. extends_pair k m w a b x y ext p;
      }

  -- a simple statement, after which each pair from before is still one
  pub record SimpleEnds (a : Agreement) (k : ℕ) (s t : Spot) (p : RawSimpleTree) : Type 0 where
    pub next : Agreement
    pub sound : SimpleSound text program ns f a next k s t p
    pub place : PlaceFits next (deep.simple_after s p) (after t (simple_hoisted text program ns text_calls tree_calls f gives loop k p))
    pub more : Within a next

  -- ---- a statement with one right side

  -- what goes before the right side, and then the statement itself
  record RightFits (used_ : Bool) (a : Agreement) (k : ℕ) (s t : Spot) (e : RawExprTree) (own : RawSimpleTree) : Type 0 where
    named : AreSourceNames e
    place : PlaceFits a s t
    fine : AreFine gives loop t (value_before k e ++ RawDo own ∷ [])
    own_fine : simple_faults (after t (value_before k e)) own ≡ [] → side_faults used_ (after t (value_before k e)).names (value_left k e) ≡ []
    tree_sizes : Grows (after t (value_before k e ++ RawDo own ∷ [])).sizes (function_at program f).sizes
    plain : IsPlain e
    in_text : Occurs text_calls s.site (expr_places is_call e)
    in_tree : TreeHas tree_calls t (value_before k e ++ RawDo own ∷ [])
    own_places : simple_places is_call own ≡ expr_places is_call (value_left k e)

  module _ (used_ : Bool) (a : Agreement) (k : ℕ) (s t : Spot) (e : RawExprTree) (own : RawSimpleTree) (h : RightFits used_ a k s t e own) where
    own_faults : simple_faults (after t (value_before k e)) own ≡ []
    own_faults = one_fine gives loop (after t (value_before k e)) (RawDo own) (both_fine gives loop t (value_before k e) (RawDo own ∷ []) h.fine).1

    fits_side : SideFits text program ns text_calls tree_calls f gives loop used_ a k s t e
    fits_side =
        let xs = value_before k e in
        let u = after t xs in
        let fines = both_fine gives loop t xs (RawDo own ∷ []) h.fine in
        let all = (function_at program f).sizes in
        let grows = subst (λ (z : Spot). Grows u.sizes z.sizes) (sym (after_both t xs (RawDo own ∷ []))) (stmts_grow u (raw_in_order (RawDo own ∷ []))) in
        let split = tree_both tree_calls t xs (RawDo own ∷ []) h.in_tree in
        record {
          named = h.named;
          place = h.place;
          fine = fines.0;
          left_fine = h.own_fine own_faults;
          tree_sizes = grows_on u.sizes (after t (xs ++ RawDo own ∷ [])).sizes all grows h.tree_sizes;
          plain = h.plain;
          in_text = h.in_text;
          in_tree = split.0;
          left_calls = occurs_as tree_calls u.site u.site (simple_places is_call own ++ []) (expr_places is_call (value_left k e)) refl (append-nil (simple_places is_call own) ∙ h.own_places) split.1.occurs;
        }

    fits_scope : Scope text program f a (length t.sizes) (value_names e) s t
    fits_scope = scope_of text program f a (value_names e) s t (after t (value_before k e)).sizes h.place (value_adds k e t) fits_side.tree_sizes whole.tree_few

    abbrev side_names : Agreement
    side_names = with_value_names k (length t.sizes) e a

    side_place : StandsAt side_names (length t.sizes + value_names e) (after t (value_before k e))
    side_place = value_place a k (length t.sizes) e t h.place.stand.tree fits_scope.few

    -- the place of the right side stands for the statement's
    side_stands : BothStand side_names (length s.sizes) (length (after t (value_before k e)).sizes) s (after t (value_before k e))
    side_stands =
        stand_later a side_names k (length t.sizes + value_names e) s s t (after t (value_before k e)) h.place refl refl (value_extend k (length t.sizes) e a) side_place (value_rises (length s.sizes) k (length t.sizes) e a h.place.stand.below)

    side_few : length (after t (value_before k e)).sizes ≤ 65536
    side_few = let count = side_place.count in let few = fits_scope.few in omega (arith, count, few)

    side_within : Within side_names a
    side_within = λ x y q. extends_paired k (length t.sizes) (length t.sizes + value_names e) a side_names x y (value_extend k (length t.sizes) e a) q

    side_more : Within a side_names
    side_more = λ x y q. extends_pair k (length t.sizes) (length t.sizes + value_names e) a side_names x y (value_extend k (length t.sizes) e a) q

    below_later : AreBelow (length s.sizes) (length (after t (value_before k e)).sizes) a
    below_later = let count = side_place.count in rise_more (length s.sizes) (length t.sizes) (length (after t (value_before k e)).sizes) a (omega (arith, count)) h.place.stand.below

  -- ---- the places after a simple statement

  deep_grows : (s : Spot) (p : RawSimpleTree) → Grows s.sizes (deep.simple_after s p).sizes
  deep_grows s (RawDeclareScalar n) = record { more = 1 ∷ []; is = refl }
  deep_grows s (RawDeclareArray n size) = record { more = size ∷ []; is = refl }
  deep_grows s (RawDeclareWith n v) = record { more = 1 ∷ []; is = refl }
  deep_grows s _ = grows_none s.sizes

  text_few_at : (s : Spot) (p : RawSimpleTree) → Grows (deep.simple_after s p).sizes (frames.function_at text f).sizes → length s.sizes ≤ 65536
  text_few_at s p h =
      let g = deep_grows s p in
      let one = ap length g.is in
      let two = length-append s.sizes g.more in
      let three = ap length h.is in
      let four = length-append (deep.simple_after s p).sizes h.more in
      let few = whole.text_few in
      omega (arith, one, two, three, four, few)

  place_next : (a c : Agreement) (k : ℕ) (s t : Spot) (p : RawSimpleTree) → SimpleFits text program ns text_calls tree_calls f gives loop a k s t p → BothStand c (length s.sizes) (length (after t (simple_before k p)).sizes) s (after t (simple_before k p)) →
      length (after t (simple_before k p)).sizes ≤ 65536 → PlaceFits (simple_declares (length s.sizes) (length (after t (simple_before k p)).sizes) p c) (deep.simple_after s p) (after t (simple_hoisted text program ns text_calls tree_calls f gives loop k p))
  place_next a c k s t p h stand few =
      let u = after t (simple_before k p) in
      let n = length s.sizes in
      let m = length u.sizes in
      let b = simple_declares n m p c in
      let own = simple_left k p in
      let next = simple_stands c n m k p s u h.named (text_few_at s p h.text_sizes) few stand in
      record {
        stand = subst (λ z. BothStand b (length (deep.simple_after s p).sizes) (length z.sizes) (deep.simple_after s p) z) (sym (after_both t (simple_before k p) (RawDo own ∷ []))) (renumbered b (n + variables_of p) (m + variables_of p) (deep.simple_after s p) (tree_simples.simple_after u own) next);
        knows = simple_alone s p h.place.knows;
      }

  -- ---- declarations

  -- what holds of the variables that come next, whose sizes are known, holds of the numbers that they get
  at_next : (P : ℕ → ℕ → Type 0) (size : ℕ) (s t : Spot) → length s.sizes ≤ 65536 → length t.sizes ≤ 65536 →
      Grows (s.sizes ++ size ∷ []) (frames.function_at text f).sizes → Grows (t.sizes ++ size ∷ []) (function_at program f).sizes →
      (slice_index (frames.function_at text f).sizes (length s.sizes) ≡ size → slice_index (function_at program f).sizes (length t.sizes) ≡ size →
      P (length s.sizes) (length t.sizes)) → P (next_variable s) (next_variable t)
  at_next P size s t few fewer one two h =
      subst (λ i. P i (next_variable t)) (sym (below_limit (length s.sizes) (length s.sizes) refl few))
      (subst (P (length s.sizes)) (sym (below_limit (length t.sizes) (length t.sizes) refl fewer))
      (h (size_there s.sizes size _ one) (size_there t.sizes size _ two)))

  declared_places : (v : Bool) (t : List ℕ) (n m : ℕ) (a : Agreement) → AreBelow n m a → slice_index (frames.function_at text f).sizes n ≡ 1 → slice_index (function_at program f).sizes m ≡ 1 → PlacesAlike text program f a (declared_or v t n m false a) (InLocal n) (InLocal m)
  declared_places true t n m a below one two = PlacesAlike.ToFixed a n m below
  declared_places false t n m a below one two = PlacesAlike.ToDeclared a t n m below one two

  scalar_zeroes : (v : Bool) (t : List ℕ) (n m : ℕ) (a : Agreement) → AreBelow n m a → slice_index (frames.function_at text f).sizes n ≡ slice_index (function_at program f).sizes m → Zeroes text program f a (declared_or v t n m false a) (DeclareScalar n) (tree.DeclareScalar m)
  scalar_zeroes true t n m a below same = Zeroes.FixedScalars a n m below
  scalar_zeroes false t n m a below same = Zeroes.Scalars a t n m below same

  array_zeroes : (v : Bool) (t : List ℕ) (n m size : ℕ) (a : Agreement) → AreBelow n m a → slice_index (frames.function_at text f).sizes n ≡ slice_index (function_at program f).sizes m → Zeroes text program f a (declared_or v t n m true a) (DeclareArray n size) (tree.DeclareArray m size)
  array_zeroes true t n m size a below same = Zeroes.FixedArrays a n m size below
  array_zeroes false t n m size a below same = Zeroes.Arrays a t n m size below same

  tree_few_at : (t : Spot) (own : RawSimpleTree) → Grows (after t (RawDo own ∷ [])).sizes (function_at program f).sizes → length t.sizes ≤ 65536
  tree_few_at t own h =
      let g = stmts_grow t (raw_in_order (RawDo own ∷ [])) in
      let one = ap length g.is in
      let two = length-append t.sizes g.more in
      let three = ap length h.is in
      let four = length-append (after t (RawDo own ∷ [])).sizes h.more in
      let few = whole.tree_few in
      omega (arith, one, two, three, four, few)

  scalar_ends : (n : NameTree) (a : Agreement) (k : ℕ) (s t : Spot) → SimpleFits text program ns text_calls tree_calls f gives loop a k s t (RawDeclareScalar n) → SimpleEnds a k s t (RawDeclareScalar n)
  scalar_ends n a k s t h =
      let p = RawDeclareScalar n in
      let x = length s.sizes in
      let y = length t.sizes in
      let next = simple_declares x y p a in
      let few = tree_few_at t p h.tree_sizes in
      let zeroes = at_next (λ i j. Zeroes text program f a next (DeclareScalar i) (tree.DeclareScalar j)) 1 s t (text_few_at s p h.text_sizes) few
      h.text_sizes h.tree_sizes (λ one two. scalar_zeroes (is_fixed (find n.text (in_text a))) n.text x y a h.place.stand.below (one ∙ sym two)) in
      record {
        next = next;
        sound = record { middle = next; zeroes = zeroes; within = λ u w q. q };
        place = place_next a a k s t p h h.place.stand few;
        more = simple_more x y p a;
      }

  array_ends : (n : NameTree) (size : ℕ) (a : Agreement) (k : ℕ) (s t : Spot) → SimpleFits text program ns text_calls tree_calls f gives loop a k s t (RawDeclareArray n size) → SimpleEnds a k s t (RawDeclareArray n size)
  array_ends n size a k s t h =
      let p = RawDeclareArray n size in
      let x = length s.sizes in
      let y = length t.sizes in
      let next = simple_declares x y p a in
      let few = tree_few_at t p h.tree_sizes in
      let zeroes = at_next (λ i j. Zeroes text program f a next (DeclareArray i size) (tree.DeclareArray j size)) size s t (text_few_at s p h.text_sizes) few
      h.text_sizes h.tree_sizes (λ one two. array_zeroes (is_fixed (find n.text (in_text a))) n.text x y size a h.place.stand.below (one ∙ sym two)) in
      record {
        next = next;
        sound = record { middle = next; zeroes = zeroes; within = λ u w q. q };
        place = place_next a a k s t p h h.place.stand few;
        more = simple_more x y p a;
      }

  declared_ends : (n : NameTree) (e : RawExprTree) (a : Agreement) (k : ℕ) (s t : Spot) → SimpleFits text program ns text_calls tree_calls f gives loop a k s t (RawDeclareWith n e) → SimpleEnds a k s t (RawDeclareWith n e)
  declared_ends n e a k s t h =
      let p = RawDeclareWith n e in
      let own = RawDeclareWith n (value_left k e) in
      let xs = value_before k e in
      let u = after t xs in
      let r : RightFits true a k s t e own = record {
        named = h.named.1;
        place = h.place;
        fine = h.fine;
        own_fine = λ g. sym (right_is_side u.names (value_left k e)) ∙ (both_none (declare_faults u n) (right_faults u.names (value_left k e)) g).1;
        tree_sizes = h.tree_sizes;
        plain = h.plain;
        in_text = h.in_text;
        in_tree = h.in_tree;
        own_places = refl;
      } in
      let c = with_value_names k (length t.sizes) e a in
      let x = length s.sizes in
      let y = length u.sizes in
      let v = is_fixed (find n.text (in_text c)) in
      let middle = declared_or v n.text x y false a in
      let fewer = side_few true a k s t e own r in
      let all = (function_at program f).sizes in
      let begins : Grows (u.sizes ++ 1 ∷ []) all = subst (λ (z : Spot). Grows z.sizes all) (after_both t xs (RawDo own ∷ [])) h.tree_sizes in
      let places = at_next (λ i j. PlacesAlike text program f a middle (InLocal i) (InLocal j)) 1 s u (text_few_at s p h.text_sizes) fewer h.text_sizes begins
      (declared_places v n.text x y a (below_later true a k s t e own r)) in
      record {
        next = simple_declares x y p c;
        sound = record {
          middle = middle;
          from = InLocal (next_variable s);
          to = InLocal (next_variable u);
          in_text = SideSimple.Declares (next_variable s) (deep.expr_of s.names s.site e);
          in_tree = OwnSide.Declares (next_variable u) (side_left ns t k e);
          places = places;
          within = declared_within v n.text x y false c a (side_within true a k s t e own r);
          side = (side_sound true a k s t e (fits_side true a k s t e own r)).sound;
        };
        place = place_next a c k s t p h (side_stands true a k s t e own r) fewer;
        more = λ i j q. simple_more x y p c i j (side_more true a k s t e own r i j q);
      }

  -- ---- assignments

  -- where a word goes that a name is set to, by what the name stands for
  record Setting (a : Agreement) (x y : Variable) (d : DeepExpr) (r : RightTree) : Type 0 where
    from : Place
    to : Place
    in_text : SideSimple (deep.set_scalar x d) d from
    in_tree : OwnSide (simple_numbered ns (set_scalar y r)) (right_numbered ns r) to
    places : PlacesAlike text program f a a from to

  set_by : (a c : Agreement) (n m : ℕ) (d : DeepExpr) (r : RightTree) → AreBelow n m a → Within c a → {x y : Variable} → VariablePair c x y → Setting a x y d r
  set_by a c n m d r below within (VariablePair.BothLocal x y pair) =
      record { from = InLocal x; to = InLocal y; in_text = SideSimple.SetsLocal x d; in_tree = OwnSide.SetsLocal y (right_numbered ns r); places = PlacesAlike.ToLocal a n m x y below (within x y pair) }
  set_by a c n m d r below within (VariablePair.BothGlobal g) =
      record { from = InGlobal g; to = InGlobal g; in_text = SideSimple.SetsGlobal g d; in_tree = OwnSide.SetsGlobal g (right_numbered ns r); places = PlacesAlike.ToGlobal a g }

  set_ends : (n : NameTree) (e : RawExprTree) (a : Agreement) (k : ℕ) (s t : Spot) → SimpleFits text program ns text_calls tree_calls f gives loop a k s t (RawSet n e) → SimpleEnds a k s t (RawSet n e)
  set_ends n e a k s t h =
      let p = RawSet n e in
      let own = RawSet n (value_left k e) in
      let u = after t (value_before k e) in
      let r : RightFits true a k s t e own = record {
        named = h.named.1;
        place = h.place;
        fine = h.fine;
        own_fine = λ g. sym (right_is_side u.names (value_left k e)) ∙ (both_none (scalar_faults u.names n) (right_faults u.names (value_left k e)) g).1;
        tree_sizes = h.tree_sizes;
        plain = h.plain;
        in_text = h.in_text;
        in_tree = h.in_tree;
        own_places = refl;
      } in
      let c = with_value_names k (length t.sizes) e a in
      let stands = side_stands true a k s t e own r in
      let faults = both_none (scalar_faults u.names n) (right_faults u.names (value_left k e)) (own_faults true a k s t e own r) in
      let fine : scalar_faults (in_tree c) n ≡ [] = ap (λ bs. scalar_faults bs n) (sym stands.tree.names) ∙ faults.0 in
      let pair = variable_found c is_scalar scalar_variable (find n.text (in_text c)) (find n.text (in_tree c)) n.at (found_alike c n.text stands.tree.agrees h.named.0) fine in
      let here : VariablePair c (variable_of (find n.text s.names)) (variable_of (find n.text u.names)) =
      subst (λ bs. VariablePair c (variable_of (find n.text bs)) (variable_of (find n.text u.names))) (sym stands.text.names) (subst (λ bs. VariablePair c (variable_of (find n.text (in_text c))) (variable_of (find n.text bs))) (sym stands.tree.names) pair) in
      let setting = set_by a c (length s.sizes) (length u.sizes) (deep.expr_of s.names s.site e) (right_of u.names u.site (value_left k e)) (below_later true a k s t e own r) (side_within true a k s t e own r) here in
      record {
        next = c;
        sound = record {
          middle = a;
          from = setting.from;
          to = setting.to;
          in_text = setting.in_text;
          in_tree = setting.in_tree;
          places = setting.places;
          within = side_within true a k s t e own r;
          side = (side_sound true a k s t e (fits_side true a k s t e own r)).sound;
        };
        place = place_next a c k s t p h stands (side_few true a k s t e own r);
        more = side_more true a k s t e own r;
      }

  -- ---- calls

  calling_ends : (n : NameTree) (es : RawExprTrees) (a : Agreement) (k : ℕ) (s t : Spot) → SimpleFits text program ns text_calls tree_calls f gives loop a k s t (RawCalling n es) → SimpleEnds a k s t (RawCalling n es)
  calling_ends n es a k s t h =
      let p = RawCalling n es in
      let e = RawCall n es in
      let own = RawCalling n (arguments_left (is_spawn n) k es) in
      let u = after t (value_before k e) in
      let r : RightFits false a k s t e own = record { named = h.named; place = h.place; fine = h.fine; own_fine = λ g. g; tree_sizes = h.tree_sizes; plain = h.plain; in_text = h.in_text; in_tree = h.in_tree; own_places = refl } in
      record {
        next = with_value_names k (length t.sizes) e a;
        sound = record {
          middle = a;
          from = Nowhere;
          to = Nowhere;
          in_text = SideSimple.JustCalls (deep.expr_of s.names s.site e);
          in_tree = OwnSide.JustCalls (call_numbered ns (call_of u.names u.site n (listed (arguments_left (is_spawn n) k es))));
          places = PlacesAlike.ToNowhere a;
          within = side_within false a k s t e own r;
          side = (side_sound false a k s t e (fits_side false a k s t e own r)).sound;
        };
        place = place_next a (with_value_names k (length t.sizes) e a) k s t p h (side_stands false a k s t e own r) (side_few false a k s t e own r);
        more = side_more false a k s t e own r;
      }

  table_calling_ends : (n : NameTree) (i d : RawExprTree) (a : Agreement) (k : ℕ) (s t : Spot) → SimpleFits text program ns text_calls tree_calls f gives loop a k s t (RawTableCalling n i d) → SimpleEnds a k s t (RawTableCalling n i d)
  table_calling_ends n i d a k s t h =
      let p = RawTableCalling n i d in
      let e = RawTableCall n i d in
      let own = RawTableCalling n (index_left k i d) (argument_left k i d) in
      let u = after t (value_before k e) in
      let r : RightFits false a k s t e own = record { named = h.named; place = h.place; fine = h.fine; own_fine = λ g. g; tree_sizes = h.tree_sizes; plain = h.plain; in_text = h.in_text; in_tree = h.in_tree; own_places = refl } in
      record {
        next = with_value_names k (length t.sizes) e a;
        sound = record {
          middle = a;
          from = Nowhere;
          to = Nowhere;
          in_text = SideSimple.JustCalls (deep.expr_of s.names s.site e);
          in_tree = OwnSide.JustCalls (call_numbered ns (table_call_of u.names u.site n (index_left k i d) (argument_left k i d)));
          places = PlacesAlike.ToNowhere a;
          within = side_within false a k s t e own r;
          side = (side_sound false a k s t e (fits_side false a k s t e own r)).sound;
        };
        place = place_next a (with_value_names k (length t.sizes) e a) k s t p h (side_stands false a k s t e own r) (side_few false a k s t e own r);
        more = side_more false a k s t e own r;
      }

  -- ---- an element that is set

  element_by : (a c : Agreement) (n m : ℕ) (i v : DeepExpr) (index : ExprTree) (r : RightTree) → AreBelow n m a → Within c a → {x y : Variable} → VariablePair c x y →
      ElementBoth a (deep.set_element x i v) i v (simple_numbered ns (set_element y index r)) index (right_numbered ns r)
  element_by a c n m i v index r below within (VariablePair.BothLocal x y pair) = ElementBoth.InVariable n m x y i v index (right_numbered ns r) below (within x y pair)
  element_by a c n m i v index r below within (VariablePair.BothGlobal g) = ElementBoth.InGlobalArray g i v index (right_numbered ns r)

  element_ends : (n : NameTree) (i e : RawExprTree) (a : Agreement) (k : ℕ) (s t : Spot) → SimpleFits text program ns text_calls tree_calls f gives loop a k s t (RawSetElement n i e) → SimpleEnds a k s t (RawSetElement n i e)
  element_ends n i e a k s t h =
      let p = RawSetElement n i e in
      let later = holds_nested e in
      let m = length t.sizes in
      let k1 = part_after k later i in
      let named = part_named (is_named later i) (k + names_in i) (left_of k i) in
      let index = part_or (is_named later i) (k + names_in i) (left_of k i) in
      let left = value_left k1 e in
      let own = RawSetElement n index left in
      let xs = before k i ++ named ++ value_before k1 e in
      let u = after t xs in
      let middle = after_part t k later i in
      let w = after middle (value_before k1 e) in
      let same : u ≡ w = three_after t (before k i) named (value_before k1 e) in
      let room = part_after 0 later i + value_names e in
      let c = with_element_names k m i e a in
      let all = (function_at program f).sizes in
      let grows = subst (λ (z : Spot). Grows u.sizes z.sizes) (sym (after_both t xs (RawDo own ∷ []))) (stmts_grow u (raw_in_order (RawDo own ∷ []))) in
      let scope = scope_of text program f a room s t u.sizes h.place (element_adds k i e t) (grows_on u.sizes (after t (xs ++ RawDo own ∷ [])).sizes all grows h.tree_sizes) whole.tree_few in
      let place = element_place a k m i e t h.place.stand.tree scope.few in
      let ext = element_extend k m i e a in
      let within : Within c a = λ x y q. extends_paired k m (m + room) a c x y ext q in
      let stands = stand_later a c k (m + room) s s t u h.place refl refl ext place (element_rises (length s.sizes) k m i e a h.place.stand.below) in
      let fewer : length u.sizes ≤ 65536 = let count = place.count in let few = scope.few in omega (arith, count, few) in
      let fines = both_fine gives loop t xs (RawDo own ∷ []) h.fine in
      let three = three_fine gives loop t (before k i) named (value_before k1 e) fines.0 in
      let faults = both_none (array_faults u.names n) (expr_faults u.names index ++ right_faults u.names left) (one_fine gives loop u (RawDo own) fines.1) in
      let inner = both_none (expr_faults u.names index) (right_faults u.names left) faults.1 in
      let left_fine : side_faults true u.names left ≡ [] = sym (right_is_side u.names left) ∙ inner.1 in
      let fine : array_faults (in_tree c) n ≡ [] = ap (λ bs. array_faults bs n) (sym place.names) ∙ faults.0 in
      let pair = variable_found c is_array array_variable (find n.text (in_text c)) (find n.text (in_tree c)) n.at (found_alike c n.text place.agrees h.named.0) fine in
      let here : VariablePair c (variable_of (find n.text s.names)) (variable_of (find n.text w.names)) =
      subst (λ bs. VariablePair c (variable_of (find n.text bs)) (variable_of (find n.text w.names))) (sym stands.text.names)
      (subst (λ bs. VariablePair c (variable_of (find n.text (in_text c))) (variable_of (find n.text bs))) (sym place.names ∙ ap (λ (z : Spot). z.names) same) pair) in
      let below = let count = place.count in rise_more (length s.sizes) m (length u.sizes) a (omega (arith, count)) h.place.stand.below in
      let di = deep.expr_of s.names s.site i in
      let de = deep.expr_of s.names (s.site + calls_in i) e in
      let both = subst (λ (z : Spot). ElementBoth a (deep.simple_of s p) di de (simple_numbered ns (tree_simples.simple_of z own)) (index_tree t k i e) (side_left ns middle k1 e)) (sym same)
      (element_by a c (length s.sizes) (length u.sizes) di de (expr_of w.names index) (right_of w.names w.site left) below within here) in
      let own_places : simple_places is_call own ++ [] ≡ expr_places is_call left =
      append-nil (simple_places is_call own) ∙ ap (λ ps. ps ++ expr_places is_call left) (part_places (is_named later i) (k + names_in i) (left_of k i) (left_whole k i)) in
      let split = tree_both tree_calls t xs (RawDo own ∷ []) h.in_tree in
      let parts = tree_three tree_calls t (before k i) named (value_before k1 e) split.0 in
      let there = occurs_as tree_calls u.site w.site (simple_places is_call own ++ []) (expr_places is_call left) (ap (λ (z : Spot). z.site) same) own_places split.1.occurs in
      let text_e = occurs_as text_calls (s.site + length (expr_places is_call i)) (s.site + calls_in i) (expr_places is_call e) (expr_places is_call e) (ap (λ j. s.site + j) (calls_length i)) refl (occurs_second text_calls s.site (expr_places is_call i) (expr_places is_call e) h.in_text) in
      let sound : IsElementSound ns gives loop a k m s.site i e t = record {
        index_source = h.named.1;
        source = h.named.2;
        fine = fines.0;
        index_fine = ap (λ bs. expr_faults bs index) (sym place.names) ∙ inner.0;
        left_fine = ap (λ bs. side_faults true bs left) (sym place.names) ∙ left_fine;
        index_sites = sites_stand ns tree_calls text_calls whole.numbers k s.site i t h.plain.0 parts.0 (occurs_first text_calls s.site (expr_places is_call i) (expr_places is_call e) h.in_text);
        sites = value_sites_stand ns tree_calls text_calls whole.numbers k1 (s.site + calls_in i) e middle h.plain.1 parts.2 there text_e;
      } in
      record {
        next = c;
        sound = record { variables = m; gives = gives; loop = loop; both = both; within = within; scope = scope; sound = sound };
        place = place_next a c k s t p h stands fewer;
        more = λ x y q. extends_pair k m (m + room) a c x y ext q;
      }

  pub simple_sound : (a : Agreement) (k : ℕ) (s t : Spot) (p : RawSimpleTree) → SimpleFits text program ns text_calls tree_calls f gives loop a k s t p → SimpleEnds a k s t p
  simple_sound a k s t (RawDeclareScalar n) h = scalar_ends n a k s t h
  simple_sound a k s t (RawDeclareArray n size) h = array_ends n size a k s t h
  simple_sound a k s t (RawDeclareWith n v) h = declared_ends n v a k s t h
  simple_sound a k s t (RawSet n v) h = set_ends n v a k s t h
  simple_sound a k s t (RawSetElement n i v) h = element_ends n i v a k s t h
  simple_sound a k s t (RawCalling n es) h = calling_ends n es a k s t h
  simple_sound a k s t (RawTableCalling n i e) h = table_calling_ends n i e a k s t h
