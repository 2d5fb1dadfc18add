-- The parts in the parentheses of a `for`, in which each call is whole, stay as they are, and are sound.
use Rattle.hoist_meaning.proofs.Common.{ℕ, ◌+◌, ◌≡◌, ◌≤◌, refl, sym, ap, subst, ◌∙◌, Bool, true, false, List, [], ◌∷◌, ◌++◌, length, append-nil, length-append, Option, Some, None, arith, RawExprTree, RawExprTrees, RawElement, RawUnary, RawParenthesized, RawBinary, RawLogicalAnd, RawLogicalOr, RawConditional, RawCall, RawTableCall, NoExprs, And, RawSimpleTree, RawDeclareScalar, RawDeclareArray, RawDeclareWith, RawSet, RawSetElement, RawCalling, RawTableCalling, RawDo, ProgramTree, HaveNoCall, IsValueWhole, IsSimpleWhole, AreSimplesWhole, IsConditionWhole, IsStepWhole, function_at, expr_faults, Spot, simple_faults, simples_faults, condition_faults, step_faults, step_kind, step_after, both_none, is_call, simple_places, simples_places, optional_places, step_places, DeepProgram, calls_in, counted, is_spawn, before, simple_left, simple_before, held_not, simple_kept, no_simple_before, no_before, no_left, IsPlain, ArePlain, IsSimplePlain, IsSimpleNamed, AreSimplesNamed, IsOptionNamed, IsStepNamed}
use Rattle.scope_rules.specs.Simples as tree_simples
use Rattle.deep_mean.specs.DeepFrames as frames
use Rattle.deep_mean.specs.Naming as deep
use Rattle.hoist_meaning.proofs.CallCounts.{no_places}
use Rattle.hoist_meaning.proofs.KnownSpawn.{AreFine}
use Rattle.hoist_meaning.proofs.SpawnedNames.{no_call_plain}
use Rattle.hoist_meaning.proofs.Bindings.{Agreement}
use Rattle.hoist_meaning.proofs.Items.{after}
use Rattle.hoist_meaning.proofs.Alike.{Within}
use Rattle.hoist_meaning.proofs.Sizes.{Grows, grows_none, grows_on, stmt_grows}
use Rattle.hoist_meaning.proofs.SiteNumbers.{Occurs, occurs_first, occurs_second, occurs_as, TreeHas, stmt_site}
use Rattle.hoist_meaning.proofs.Sound.{SimpleSound, PartsSound, TurnSound, StepSound}
use Rattle.hoist_meaning.proofs.Fits.{PlaceFits, Whole}
use Rattle.hoist_meaning.proofs.ConditionSounds.{condition_sound}
use Rattle.hoist_meaning.proofs.SimpleSounds.{simple_sound}
use Rattle.hoist_meaning.proofs.TextSites.{simple_site}
use Rattle.hoist_meaning.proofs.Pieces.{place_on, simples_text}

-- ---- whole calls are plain

arguments_plain : (stays : Bool) (es : RawExprTrees) → HaveNoCall es → ArePlain stays es
arguments_plain stays NoExprs h = tt
arguments_plain true (And e es) h = (held_not e h.0, arguments_plain false es h.1)
arguments_plain false (And e es) h = (no_call_plain e h.0, arguments_plain false es h.1)

value_plain : (v : RawExprTree) → IsValueWhole v → IsPlain v
value_plain (RawElement n i) h = no_call_plain i h
value_plain (RawUnary op e) h = no_call_plain e h
value_plain (RawParenthesized e) h = no_call_plain e h
value_plain (RawBinary op l r) h = (no_call_plain l h.0, no_call_plain r h.1)
value_plain (RawLogicalAnd l r) h = (no_call_plain l h.0, no_call_plain r h.1)
value_plain (RawLogicalOr l r) h = (no_call_plain l h.0, no_call_plain r h.1)
value_plain (RawConditional c x y) h = (no_call_plain c h.0, no_call_plain x h.1, no_call_plain y h.2)
value_plain (RawCall n es) h = arguments_plain (is_spawn n) es h
value_plain (RawTableCall n i e) h = (no_call_plain i h.0, no_call_plain e h.1)
value_plain _ h = tt

whole_plain : (p : RawSimpleTree) → IsSimpleWhole p → IsSimplePlain p
whole_plain (RawDeclareWith n v) h = value_plain v h
whole_plain (RawSet n v) h = value_plain v h
whole_plain (RawSetElement n i v) h = (no_call_plain i h.0, value_plain v h.1)
whole_plain (RawCalling n es) h = arguments_plain (is_spawn n) es h
whole_plain (RawTableCalling n i e) h = (no_call_plain i h.0, no_call_plain e h.1)
whole_plain _ h = tt

-- a whole simple statement stays as it is
stays_one : (k : ℕ) (p : RawSimpleTree) → IsSimpleWhole p → RawDo p ∷ [] ≡ simple_before k p ++ RawDo (simple_left k p) ∷ []
stays_one k p w = (λ i. sym (no_simple_before k p w) i ++ RawDo (sym (simple_kept k p w) i) ∷ [])

module _ (text : DeepProgram) (program : ProgramTree) (ns text_calls tree_calls : List ℕ) (f : ℕ) (limits : Whole text program ns text_calls tree_calls f) (gives loop : Bool) where
  -- these calls of the tree stand from a number on
  pub record Has (site : ℕ) (places : List ℕ) : Type 0 where
    pub occurs : Occurs tree_calls site places
    pub few : site + length places ≤ 65536

  pub has_first : (site : ℕ) (xs ys : List ℕ) → Has site (xs ++ ys) → Has site xs
  has_first site xs ys h = record { occurs = occurs_first tree_calls site xs ys h.occurs; few = (let long = length-append xs ys in let some = h.few in omega (arith, long, some)) }

  pub has_second : (site next : ℕ) (xs ys : List ℕ) → next ≡ site + length xs → Has site (xs ++ ys) → Has next ys
  has_second site next xs ys e h = record {
    occurs = occurs_as tree_calls (site + length xs) next ys ys (sym e) refl (occurs_second tree_calls site xs ys h.occurs);
    few = (let long = length-append xs ys in let some = h.few in omega (arith, long, some, e));
  }

  simple_has : (t : Spot) (p : RawSimpleTree) → IsSimpleWhole p → Has t.site (simple_places is_call p) → TreeHas tree_calls t (RawDo p ∷ [])
  simple_has t p w h =
      let same : simple_places is_call p ≡ simple_places is_call p ++ [] = sym (append-nil (simple_places is_call p)) in
      record {
        occurs = occurs_as tree_calls t.site t.site (simple_places is_call p) (simple_places is_call p ++ []) refl same h.occurs;
        few = subst (λ (ps : List ℕ). t.site + length ps ≤ 65536) same h.few;
        whole = (w, tt);
      }

  -- one simple statement
  pub part_sound : (a : Agreement) (k : ℕ) (s t : Spot) (p : RawSimpleTree) → IsSimpleWhole p → IsSimpleNamed p → PlaceFits a s t → simple_faults t p ≡ [] → Grows (deep.simple_after s p).sizes (frames.function_at text f).sizes
      → Grows (tree_simples.simple_after t p).sizes (function_at program f).sizes → Occurs text_calls s.site (simple_places is_call p) → Has t.site (simple_places is_call p)
      → (b : Agreement) × SimpleSound text program ns f a b k s t p × PlaceFits b (deep.simple_after s p) (tree_simples.simple_after t p) × Within a b
  part_sound a k s t p w named place fine text_sizes tree_sizes in_text has =
      let same = stays_one k p w in
      let e = simple_sound text program ns text_calls tree_calls f limits gives loop a k s t p (record {
        named = named;
        place = place;
        fine = subst (AreFine gives loop t) same (ap (λ fs. fs ++ []) fine);
        text_sizes = text_sizes;
        tree_sizes = subst (λ ss. Grows (after t ss).sizes (function_at program f).sizes) same tree_sizes;
        plain = whole_plain p w;
        in_text = in_text;
        in_tree = subst (TreeHas tree_calls t) same (simple_has t p w has);
      }) in
      (e.next, e.sound, subst (λ ss. PlaceFits e.next (deep.simple_after s p) (after t ss)) (sym same) e.place, e.more)

  pub record PartsEnd (a : Agreement) (k : ℕ) (s t : Spot) (ps : List RawSimpleTree) : Type 0 where
    pub next : Agreement
    pub sound : PartsSound text program ns f a next k s t ps
    pub place : PlaceFits next (deep.simples_after s ps) (tree_simples.simples_after t ps)
    pub more : Within a next

  -- the site of the tree's next call after it
  pub tree_site : (t : Spot) (p : RawSimpleTree) → IsSimpleWhole p → Has t.site (simple_places is_call p) → (tree_simples.simple_after t p).site ≡ t.site + length (simple_places is_call p)
  tree_site t p w h = stmt_site t (RawDo p) w h.few

  simples_grow : (t : Spot) (ps : List RawSimpleTree) → Grows t.sizes (tree_simples.simples_after t ps).sizes
  simples_grow t [] = grows_none t.sizes
  simples_grow t (p ∷ ps) =
      grows_on t.sizes (tree_simples.simple_after t p).sizes (tree_simples.simples_after (tree_simples.simple_after t p) ps).sizes (stmt_grows t (RawDo p)) (simples_grow (tree_simples.simple_after t p) ps)

  pub parts_sound : (a : Agreement) (k : ℕ) (s t : Spot) (ps : List RawSimpleTree) → AreSimplesWhole ps → AreSimplesNamed ps → PlaceFits a s t → simples_faults t ps ≡ [] → Grows (deep.simples_after s ps).sizes (frames.function_at text f).sizes
      → Grows (tree_simples.simples_after t ps).sizes (function_at program f).sizes → Occurs text_calls s.site (simples_places is_call ps) → Has t.site (simples_places is_call ps) → PartsEnd a k s t ps
  parts_sound a k s t [] w named place fine text_sizes tree_sizes in_text has = record { next = a; sound = λ x y p. p; place = place; more = λ x y p. p }
  parts_sound a k s t (p ∷ ps) w named place fine text_sizes tree_sizes in_text has =
      let s1 = deep.simple_after s p in
      let t1 = tree_simples.simple_after t p in
      let xs = simple_places is_call p in
      let ys = simples_places is_call ps in
      let faults = both_none (simple_faults t p) (simples_faults t1 ps) fine in
      let first = has_first t.site xs ys has in
      let one = part_sound a k s t p w.0 named.0 place faults.0 (grows_on s1.sizes (deep.simples_after s1 ps).sizes (frames.function_at text f).sizes (simples_text s1 ps) text_sizes)
      (grows_on t1.sizes (tree_simples.simples_after t1 ps).sizes (function_at program f).sizes (simples_grow t1 ps) tree_sizes) (occurs_first text_calls s.site xs ys in_text) first in
      let rest = parts_sound one.0 k s1 t1 ps w.1 named.1 one.2 faults.1 text_sizes tree_sizes
      (occurs_as text_calls (s.site + length xs) s1.site ys ys (sym (simple_site s p)) refl (occurs_second text_calls s.site xs ys in_text)) (has_second t.site t1.site xs ys (tree_site t p w.0 first) has) in
      record { next = rest.next; sound = (one.0, w.0, one.1, rest.sound); place = rest.place; more = λ x y q. rest.more x y (one.3 x y q) }

  -- a condition without a call
  pub turn_sound : (a : Agreement) (k : ℕ) (s t : Spot) (c : Option RawExprTree) → IsConditionWhole c → IsOptionNamed c → PlaceFits a s t → condition_faults t.names c ≡ [] → Grows t.sizes (function_at program f).sizes
      → Occurs text_calls s.site (optional_places is_call c) → Has t.site [] → TurnSound text program ns f a k s t c
  turn_sound a k s t None w named place fine tree_sizes in_text has = tt
  turn_sound a k s t (Some e) w named place fine tree_sizes in_text has =
      let quiet = held_not e w in
      let none : before k e ≡ [] = no_before k e quiet in
      let first : TreeHas tree_calls t [] = record { occurs = has.occurs; few = has.few; whole = tt } in (
        w,
        (condition_sound text program ns text_calls tree_calls f limits gives loop a k s t e (record {
          named = named;
          place = place;
          fine = subst (AreFine gives loop t) (sym none) refl;
          left_fine = (λ i. expr_faults (after t (none i)).names (no_left k e quiet i)) ∙ fine;
          tree_sizes = subst (λ ss. Grows (after t ss).sizes (function_at program f).sizes) (sym none) tree_sizes;
          plain = no_call_plain e w;
          in_text = in_text;
          in_tree = subst (TreeHas tree_calls t) (sym none) first;
        })).sound,
      )

  -- the site of the tree's next call after several
  pub tree_sites : (t : Spot) (ps : List RawSimpleTree) → AreSimplesWhole ps → Has t.site (simples_places is_call ps) → (tree_simples.simples_after t ps).site ≡ t.site + length (simples_places is_call ps)
  tree_sites t [] w h = omega arith
  tree_sites t (p ∷ ps) w h =
      let t1 = tree_simples.simple_after t p in
      let xs = simple_places is_call p in
      let ys = simples_places is_call ps in
      let first = tree_site t p w.0 (has_first t.site xs ys h) in
      let rest = tree_sites t1 ps w.1 (has_second t.site t1.site xs ys first h) in
      let long = length-append xs ys in omega (arith, first, rest, long)

  pub step_tree_site : (t : Spot) (step : Option RawSimpleTree) → IsStepWhole step → Has t.site (step_places is_call step) → (step_after t step).site ≡ t.site + length (step_places is_call step)
  step_tree_site t None w h = omega arith
  step_tree_site t (Some p) w h = tree_site t p w h

  pub step_grows : (t : Spot) (step : Option RawSimpleTree) → Grows t.sizes (step_after t step).sizes
  step_grows t None = grows_none t.sizes
  step_grows t (Some p) = stmt_grows t (RawDo p)

  -- a statement after which no fewer pairs are in scope than before it, told as one that adds none
  as_before : (a b : Agreement) (k : ℕ) (s t : Spot) (p : RawSimpleTree) → Within a b → SimpleSound text program ns f a b k s t p → SimpleSound text program ns f a a k s t p
  as_before a b k s t (RawDeclareScalar n) more h = record { middle = h.middle; zeroes = h.zeroes; within = λ x y p. h.within x y (more x y p) }
  as_before a b k s t (RawDeclareArray n size) more h = record { middle = h.middle; zeroes = h.zeroes; within = λ x y p. h.within x y (more x y p) }
  as_before a b k s t (RawSetElement n i v) more h = record { variables = h.variables; gives = h.gives; loop = h.loop; both = h.both; within = λ x y p. p; scope = h.scope; sound = h.sound }
  as_before a b k s t _ more h = record { middle = h.middle; from = h.from; to = h.to; in_text = h.in_text; in_tree = h.in_tree; places = h.places; within = λ x y p. h.within x y (more x y p); side = h.side }

  -- the step declares nothing
  kind_place : (a : Agreement) (s t : Spot) (p : RawSimpleTree) → step_kind p ≡ [] → PlaceFits a s t → PlaceFits a (deep.simple_after s p) (tree_simples.simple_after t p)
  kind_place a s t (RawSet n v) e h = place_on a s t (deep.simple_after s (RawSet n v)) (tree_simples.simple_after t (RawSet n v)) h refl refl (omega arith) (omega arith)
  kind_place a s t (RawSetElement n i v) e h = place_on a s t (deep.simple_after s (RawSetElement n i v)) (tree_simples.simple_after t (RawSetElement n i v)) h refl refl (omega arith) (omega arith)
  kind_place a s t (RawCalling n es) e h = place_on a s t (deep.simple_after s (RawCalling n es)) (tree_simples.simple_after t (RawCalling n es)) h refl refl (omega arith) (omega arith)
  kind_place a s t (RawTableCalling n i x) e h = place_on a s t (deep.simple_after s (RawTableCalling n i x)) (tree_simples.simple_after t (RawTableCalling n i x)) h refl refl (omega arith) (omega arith)
  kind_place a s t _ e h = absurd cc

  pub step_sound : (a : Agreement) (k : ℕ) (s t : Spot) (step : Option RawSimpleTree) → IsStepWhole step → IsStepNamed step → PlaceFits a s t → step_faults t step ≡ [] → Grows (deep.step_after s step).sizes (frames.function_at text f).sizes
      → Grows (step_after t step).sizes (function_at program f).sizes → Occurs text_calls s.site (step_places is_call step) → Has t.site (step_places is_call step)
      → StepSound text program ns f a k s t step × PlaceFits a (deep.step_after s step) (step_after t step)
  step_sound a k s t None w named place fine text_sizes tree_sizes in_text has = (tt, place)
  step_sound a k s t (Some p) w named place fine text_sizes tree_sizes in_text has =
      let faults = both_none (step_kind p) (simple_faults t p) fine in
      let one = part_sound a k s t p w named place faults.1 text_sizes tree_sizes in_text has in
      ((w, as_before a one.0 k s t p one.3 one.1), kind_place a s t p faults.0 place)

  pub no_optional : (c : Option RawExprTree) → IsConditionWhole c → optional_places is_call c ≡ []
  no_optional None w = refl
  no_optional (Some e) w = no_places e w

  pub optional_place : (a : Agreement) (s t : Spot) (c : Option RawExprTree) → PlaceFits a s t → PlaceFits a (deep.optional_after s c) t
  optional_place a s t None h = h
  optional_place a s t (Some e) h = place_on a s t (counted s (calls_in e)) t h refl refl (omega arith) (omega arith)
