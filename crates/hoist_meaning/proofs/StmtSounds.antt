-- What is known of a place makes the statements there sound.
use Rattle.hoist_meaning.proofs.Common.{ℕ, ◌+◌, ◌≡◌, ◌≤◌, refl, sym, ap, subst, ◌∙◌, inl, inr, Bool, true, false, not, List, [], ◌∷◌, ◌++◌, length, append-nil, length-append, Option, Some, None, arith, RawExprTree, RawStmtTree, RawStmtTrees, RawDo, RawEmpty, RawBlock, RawIf, RawIfElse, RawWhile, RawFor, RawBreak, RawContinue, RawReturn, NoRawStmts, RawThen, raw_in_order, as_body, HasNoCall, IsStmtWhole, AreStmtsWhole, IsForWhole, ProgramTree, function_at, Rule, expr_faults, broken, right_faults, Spot, simples_faults, inside, left, condition_faults, step_faults, stmt_after, stmts_after, stmt_faults, both_none, not_broken, is_call, expr_places, simples_places, optional_places, step_places, stmt_places, stmts_places, DeepProgram, calls_in, counted, holds_call, names_in, left_of, before, is_false, in_block, value_before, value_left, stmt_names, hoisted, all_hoisted, while_calling, AllWhole, not_held, left_whole, no_before, no_left, IsStmtPlain, IsStmtNamed}
use Rattle.scope_rules.specs.Statements as tree_stmts
use Rattle.scope_rules.specs.Simples as tree_simples
use Rattle.deep_mean.specs.DeepFrames as frames
use Rattle.deep_mean.specs.Naming as deep
use Rattle.hoist_meaning.proofs.CallCounts.{no_places}
use Rattle.hoist_meaning.proofs.KnownSpawn.{AreFine, both_fine, one_fine}
use Rattle.hoist_meaning.proofs.Bindings.{Agreement}
use Rattle.hoist_meaning.proofs.Items.{after, after_both}
use Rattle.hoist_meaning.proofs.Alike.{Within}
use Rattle.hoist_meaning.proofs.Sizes.{Grows, grows_on, stmt_grows, stmts_grow}
use Rattle.hoist_meaning.proofs.SiteNumbers.{Occurs, occurs_first, occurs_second, occurs_as, TreeHas, tree_both, calls_length, stmt_site}
use Rattle.hoist_meaning.proofs.Sound.{IsBodyAt, JumpSound, in_turn, after_test, StmtSound, StmtsSound}
use Rattle.hoist_meaning.proofs.Fits.{PlaceFits, Whole, StmtFits, StmtsFit}
use Rattle.hoist_meaning.proofs.SimpleSounds.{side_sound, simple_sound}
use Rattle.hoist_meaning.proofs.Texts.{while_plain, while_held}
use Rattle.hoist_meaning.proofs.ForParts.{Has, has_first, has_second, parts_sound, tree_sites, step_tree_site, step_grows, turn_sound, step_sound, no_optional, optional_place}
use Rattle.hoist_meaning.proofs.TextSites.{simples_site, optional_site, step_site, deep_site}
use Rattle.hoist_meaning.proofs.Pieces.{grows_length, place_on, BodyIs, body_is, optional_text, step_text, stmt_text, stmts_text}
use Rattle.hoist_meaning.proofs.SimpleFacts.{right_is_side}
use Rattle.hoist_meaning.proofs.ConditionSounds.{condition_sound}
use Rattle.hoist_meaning.proofs.Loops.{InLoops, within_self, within_on, loops_on}

module _ (text : DeepProgram) (program : ProgramTree) (ns text_calls tree_calls : List ℕ) (f : ℕ) (limits : Whole text program ns text_calls tree_calls f) (gives : Bool) where
  abbrev Fit : Bool → Agreement → ℕ → Spot → Spot → RawStmtTree → Type 0
  Fit loop a k s t p = StmtFits text program ns text_calls tree_calls f gives loop a k s t p

  -- a statement is sound; after it each pair from before is still one
  pub record StmtEnds (o : Option Agreement) (a : Agreement) (k : ℕ) (s t : Spot) (p : RawStmtTree) : Type 0 where
    pub next : Agreement
    pub sound : StmtSound text program ns f o a next k s t p
    pub place : PlaceFits next (deep.stmt_after s p) (after t (hoisted k p))
    pub more : Within a next

  pub record StmtsEnd (o : Option Agreement) (a : Agreement) (k : ℕ) (s t : Spot) (ps : RawStmtTrees) : Type 0 where
    pub next : Agreement
    pub sound : StmtsSound text program ns f o a next k s t ps
    pub more : Within a next

  jump_sound : (loop : Bool) (o : Option Agreement) (a : Agreement) (at : ℕ) (t : Spot) → InLoops loop o a → broken (not loop) at Rule.Kind ≡ [] → JumpSound text program ns f o a
  jump_sound loop o a at t (InLoops.NoneLeft _) h = absurd (let wrong : not false ≡ false = not_broken (not false) at Rule.Kind h in cc)
  jump_sound loop o a at t (InLoops.OneLeft _ q _ within) h = within

  -- ---- the parts of a statement that begins with a condition

  -- what goes before it, and then the statement that is left
  pub record ParentFits (loop : Bool) (k : ℕ) (t : Spot) (e : RawExprTree) (p : RawStmtTree) : Type 0 where
    pub fine : AreFine gives loop t (before k e)
    pub left_fine : stmt_faults gives loop (after t (before k e)) p ≡ []
    pub before_sizes : Grows (after t (before k e)).sizes (function_at program f).sizes
    pub left_sizes : Grows (stmt_after (after t (before k e)) p).sizes (function_at program f).sizes
    pub in_before : TreeHas tree_calls t (before k e)
    pub in_left : TreeHas tree_calls (after t (before k e)) (p ∷ [])

  parent_fits : (loop : Bool) (k : ℕ) (t : Spot) (e : RawExprTree) (p : RawStmtTree) → AreFine gives loop t (before k e ++ p ∷ []) → Grows (after t (before k e ++ p ∷ [])).sizes (function_at program f).sizes → TreeHas tree_calls t (before k e ++ p ∷ []) → ParentFits loop k t e p
  parent_fits loop k t e p fine sizes calls =
      let both = both_fine gives loop t (before k e) (p ∷ []) fine in
      let has = tree_both tree_calls t (before k e) (p ∷ []) calls in
      let last : Grows (stmt_after (after t (before k e)) p).sizes (function_at program f).sizes = subst (λ (u : Spot). Grows u.sizes (function_at program f).sizes) (after_both t (before k e) (p ∷ [])) sizes in
      record {
        fine = both.0;
        left_fine = one_fine gives loop (after t (before k e)) p both.1;
        before_sizes = grows_on (after t (before k e)).sizes (stmt_after (after t (before k e)) p).sizes (function_at program f).sizes (stmt_grows (after t (before k e)) p) last;
        left_sizes = last;
        in_before = has.0;
        in_left = has.1;
      }

  -- ---- bodies

  -- the calls of one statement of the tree
  pub record OneHas (t : Spot) (p : RawStmtTree) : Type 0 where
    pub occurs : Occurs tree_calls t.site (stmt_places is_call p)
    pub few : t.site + length (stmt_places is_call p) ≤ 65536
    pub whole : IsStmtWhole p

  one_has : (t : Spot) (p : RawStmtTree) → TreeHas tree_calls t (p ∷ []) → OneHas t p
  one_has t p h =
      let same : stmt_places is_call p ++ [] ≡ stmt_places is_call p = append-nil (stmt_places is_call p) in
      record {
        occurs = occurs_as tree_calls t.site t.site (stmt_places is_call p ++ []) (stmt_places is_call p) refl same h.occurs;
        few = subst (λ (ps : List ℕ). t.site + length ps ≤ 65536) same h.few;
        whole = h.whole.0;
      }

  all_of : (ss : List RawStmtTree) → AreStmtsWhole (raw_in_order ss) → AllWhole ss
  all_of [] h = tt
  all_of (s ∷ ss) h = (h.0, all_of ss h.1)

  body_all : (ss : List RawStmtTree) → IsStmtWhole (as_body ss) → AllWhole ss
  body_all [] h = tt
  body_all (s ∷ []) h = (h, tt)
  body_all (s ∷ r ∷ ss) h = all_of (s ∷ r ∷ ss) h

  -- A statement of the text whose rewritten form is a body at a place of the tree where the same names are in scope.
  body_fits : (loop : Bool) (a : Agreement) (k : ℕ) (s t : Spot) (p : RawStmtTree) → IsStmtNamed p → IsForWhole p → PlaceFits a s t → stmt_faults gives loop t (as_body (hoisted k p)) ≡ [] → Grows (deep.stmt_after s p).sizes (frames.function_at text f).sizes
      → Grows (stmt_after t (as_body (hoisted k p))).sizes (function_at program f).sizes → IsStmtPlain p → Occurs text_calls s.site (stmt_places is_call p) → OneHas t (as_body (hoisted k p))
      → (b : BodyIs gives loop ns t (hoisted k p)) × Fit loop a k s b.place p
  body_fits loop a k s t p named fors place fine text_sizes tree_sizes plain in_text has =
      let b = body_is gives loop ns t (hoisted k p) in
      let same_sizes : length t.sizes ≤ length b.place.sizes = (let e : length b.place.sizes ≡ length t.sizes = ap length b.sizes in omega (arith, e)) in (
        b,
        record {
          named = named;
          for_whole = fors;
          place = place_on a s t s b.place place refl b.names (omega arith) same_sizes;
          fine = b.fine fine;
          text_sizes = text_sizes;
          tree_sizes = subst (λ (ms : List ℕ). Grows ms (function_at program f).sizes) b.later_sizes tree_sizes;
          plain = plain;
          in_text = in_text;
          in_tree = record {
            occurs = occurs_as tree_calls t.site b.place.site (stmt_places is_call (as_body (hoisted k p))) (stmts_places is_call (raw_in_order (hoisted k p))) (sym b.site) b.calls has.occurs;
            few = subst (λ (n : ℕ). n + length (stmts_places is_call (raw_in_order (hoisted k p))) ≤ 65536) (sym b.site) (subst (λ (ps : List ℕ). t.site + length ps ≤ 65536) b.calls has.few);
            whole = body_all (hoisted k p) has.whole;
          };
        },
      )

  -- the statement of an `if`, a `while` or a `for` is one, as StmtSound asks it
  abbrev BodySound : Option Agreement → Agreement → Agreement → ℕ → Spot → Spot → RawStmtTree → Type 0
  BodySound o a b k s t p = (c : Agreement) × (d : Agreement) × (place : Spot) × Within c a × Within b d × IsBodyAt text program ns f k t place p × StmtSound text program ns f o c d k s place p

  body_sound : (loop : Bool) (o : Option Agreement) (a b c : Agreement) (k : ℕ) (s t : Spot) (p : RawStmtTree) → Within c a → Within b c → (is : BodyIs gives loop ns t (hoisted k p)) → StmtEnds o c k s is.place p → BodySound o a b k s t p
  body_sound loop o a b c k s t p fewer more is ends = (c, ends.next, is.place, fewer, within_on b c ends.next more ends.more, is.at, ends.sound)

  -- ---- `if`

  -- the first part of an expression's calls, and then the statement's
  after_expr : (s : Spot) (e : RawExprTree) (later : List ℕ) → Occurs text_calls s.site (expr_places is_call e ++ later) → Occurs text_calls (s.site + calls_in e) later
  after_expr s e later h = occurs_as text_calls (s.site + length (expr_places is_call e)) (s.site + calls_in e) later later (ap (λ (n : ℕ). s.site + n) (calls_length e)) refl (occurs_second text_calls s.site (expr_places is_call e) later h)

  one_tree_has : (t : Spot) (e : RawExprTree) (p : RawStmtTree) → HasNoCall e → OneHas t (RawIf e p) → OneHas (inside t) p
  one_tree_has t e p quiet h = record {
    occurs = occurs_as tree_calls t.site t.site (expr_places is_call e ++ stmt_places is_call p) (stmt_places is_call p) refl (ap (λ (ps : List ℕ). ps ++ stmt_places is_call p) (no_places e quiet)) h.occurs;
    few = subst (λ (ps : List ℕ). t.site + length ps ≤ 65536) (ap (λ (ps : List ℕ). ps ++ stmt_places is_call p) (no_places e quiet)) h.few;
    whole = h.whole.1;
  }

  -- after a statement with what goes before it
  after_place : (a : Agreement) (k : ℕ) (s u t : Spot) (e : RawExprTree) (p : RawStmtTree) → PlaceFits a s (after t (before k e)) → u.names ≡ s.names → (stmt_after (after t (before k e)) p).names ≡ (after t (before k e)).names → length s.sizes ≤ length u.sizes
      → PlaceFits a u (after t (before k e ++ p ∷ []))
  after_place a k s u t e p place names same many =
      let v = after t (before k e) in
      let both : after t (before k e ++ p ∷ []) ≡ stmt_after v p = after_both t (before k e) (p ∷ []) in
      subst (λ w. PlaceFits a u w) (sym both) (place_on a s v u (stmt_after v p) place names same many (grows_length v.sizes (stmt_after v p).sizes (stmt_grows v p)))

  two_tree_has : (t : Spot) (e : RawExprTree) (p r : RawStmtTree) → HasNoCall e → OneHas t (RawIfElse e p r) → OneHas (inside t) p × OneHas (inside (left t (stmt_after (inside t) p))) r
  two_tree_has t e p r quiet h =
      let xs = stmt_places is_call p in
      let ys = stmt_places is_call r in
      let dropped : expr_places is_call e ++ (xs ++ ys) ≡ xs ++ ys = ap (λ (ps : List ℕ). ps ++ (xs ++ ys)) (no_places e quiet) in
      let occurs = occurs_as tree_calls t.site t.site (expr_places is_call e ++ (xs ++ ys)) (xs ++ ys) refl dropped h.occurs in
      let few : t.site + length (xs ++ ys) ≤ 65536 = subst (λ (ps : List ℕ). t.site + length ps ≤ 65536) dropped h.few in
      let long = length-append xs ys in
      let short : t.site + length xs ≤ 65536 = omega (arith, few, long) in
      let site : (stmt_after (inside t) p).site ≡ t.site + length xs = stmt_site (inside t) p h.whole.1 short in (
        record { occurs = occurs_first tree_calls t.site xs ys occurs; few = short; whole = h.whole.1 },
        record {
          occurs = occurs_as tree_calls (t.site + length xs) (stmt_after (inside t) p).site ys ys (sym site) refl (occurs_second tree_calls t.site xs ys occurs);
          few = omega (arith, few, long, site);
          whole = h.whole.2;
        },
      )

  -- ---- `while`

  abbrev Sounds : RawStmtTree → Type 0
  Sounds p = (loop : Bool) (o : Option Agreement) (a : Agreement) (k : ℕ) (s t : Spot) → InLoops loop o a → Fit loop a k s t p → StmtEnds o a k s t p

  plain_while : (e : RawExprTree) (p : RawStmtTree) → Sounds p → holds_call e ≡ false → (loop : Bool) (o : Option Agreement) (a : Agreement) (k : ℕ) (s t : Spot) → Fit loop a k s t (RawWhile e p) → StmtEnds o a k s t (RawWhile e p)
  plain_while e p rest quiet loop o a k s t h =
      let body = as_body (hoisted k p) in
      let s1 = inside (counted s (calls_in e)) in
      let same : hoisted k (RawWhile e p) ≡ RawWhile e body ∷ [] = sym (while_plain k e p quiet) in
      let none : before k e ≡ [] = no_before k e quiet in
      let last : Grows (stmt_after t (RawWhile e body)).sizes (function_at program f).sizes = subst (λ ss. Grows (after t ss).sizes (function_at program f).sizes) same h.tree_sizes in
      let has = one_has t (RawWhile e body) (subst (TreeHas tree_calls t) same h.in_tree) in
      let faults = both_none (expr_faults t.names e) (stmt_faults gives true (inside t) body) (one_fine gives loop t (RawWhile e body) (subst (AreFine gives loop t) same h.fine)) in
      let first : TreeHas tree_calls t [] = record { occurs = occurs_first tree_calls t.site [] (stmt_places is_call (RawWhile e body)) has.occurs; few = (let some = has.few in omega (arith, some)); whole = tt } in
      let cond = condition_sound text program ns text_calls tree_calls f limits gives loop a k s t e (record {
        named = h.named.0;
        place = h.place;
        fine = subst (AreFine gives loop t) (sym none) refl;
        left_fine = (λ i. expr_faults (after t (none i)).names (no_left k e quiet i)) ∙ faults.0;
        tree_sizes = subst (λ ss. Grows (after t ss).sizes (function_at program f).sizes) (sym none) (grows_on t.sizes (stmt_after t (RawWhile e body)).sizes (function_at program f).sizes (stmt_grows t (RawWhile e body)) last);
        plain = h.plain.0;
        in_text = occurs_first text_calls s.site (expr_places is_call e) (stmt_places is_call p) h.in_text;
        in_tree = subst (TreeHas tree_calls t) (sym none) first;
      }) in
      let inner = body_fits true a k s1 (inside t) p h.named.1 h.for_whole (place_on a s t s1 (inside t) h.place refl refl (omega arith) (omega arith)) faults.1 h.text_sizes last h.plain.1
      (after_expr s e (stmt_places is_call p) h.in_text) (one_tree_has t e body (not_held e quiet) (record { occurs = has.occurs; few = has.few; whole = has.whole })) in
      let ends = rest true (Some a) a k s1 inner.0.place (InLoops.OneLeft true a a (within_self a)) inner.1 in
      record {
        next = a;
        sound = (within_self a, inl (quiet, cond.sound, body_sound true (Some a) a a a k s1 (inside t) p (within_self a) (within_self a) inner.0 ends));
        place = subst (λ ss. PlaceFits a (deep.stmt_after s (RawWhile e p)) (after t ss)) (sym same) (place_on a s t (deep.stmt_after s (RawWhile e p)) (stmt_after t (RawWhile e body)) h.place refl refl
            (grows_length s.sizes (deep.stmt_after s1 p).sizes (stmt_text s1 p)) (grows_length t.sizes (stmt_after t (RawWhile e body)).sizes (stmt_grows t (RawWhile e body))));
        more = within_self a;
      }

  calling_while : (e : RawExprTree) (p : RawStmtTree) → Sounds p → holds_call e ≡ true → (loop : Bool) (o : Option Agreement) (a : Agreement) (k : ℕ) (s t : Spot) → Fit loop a k s t (RawWhile e p) → StmtEnds o a k s t (RawWhile e p)
  calling_while e p rest held loop o a k s t h =
      let k1 = k + names_in e in
      let body = as_body (hoisted k1 p) in
      let s1 = inside (counted s (calls_in e)) in
      let whole_ = while_calling k e body in
      let same : hoisted k (RawWhile e p) ≡ whole_ ∷ [] = sym (while_held k e p held) in
      let test = RawIf (is_false (left_of k e)) (RawBreak 0) in
      let t3 = after (in_turn t) (before k e) in
      let has = one_has t whole_ (subst (TreeHas tree_calls t) same h.in_tree) in
      let turn : TreeHas tree_calls (in_turn t) (before k e ++ test ∷ body ∷ []) = record { occurs = has.occurs; few = has.few; whole = all_of (before k e ++ test ∷ body ∷ []) has.whole.1 } in
      let parts = tree_both tree_calls (in_turn t) (before k e) (test ∷ body ∷ []) turn in
      let tail = tree_both tree_calls t3 (test ∷ []) (body ∷ []) parts.1 in
      let fine : AreFine gives true (in_turn t) (before k e ++ test ∷ body ∷ []) = one_fine gives loop t whole_ (subst (AreFine gives loop t) same h.fine) in
      let both = both_fine gives true (in_turn t) (before k e) (test ∷ body ∷ []) fine in
      let two = both_none (stmt_faults gives true t3 test) (stmt_faults gives true (after_test t k e) body ++ []) both.1 in
      let one = both_none (expr_faults t3.names (left_of k e)) (stmt_faults gives true (inside t3) (RawBreak 0)) two.0 in
      let joined : after (in_turn t) (before k e ++ test ∷ body ∷ []) ≡ stmt_after (after_test t k e) body = after_both (in_turn t) (before k e) (test ∷ body ∷ []) in
      let there : Grows (after (in_turn t) (before k e ++ test ∷ body ∷ [])).sizes (function_at program f).sizes = subst (λ ss. Grows (after t ss).sizes (function_at program f).sizes) same h.tree_sizes in
      let last : Grows (stmt_after (after_test t k e) body).sizes (function_at program f).sizes = subst (λ (u : Spot). Grows u.sizes (function_at program f).sizes) joined there in
      let cond = condition_sound text program ns text_calls tree_calls f limits gives true a k s (in_turn t) e (record {
        named = h.named.0;
        place = place_on a s t s (in_turn t) h.place refl refl (omega arith) (omega arith);
        fine = both.0;
        left_fine = one.0;
        tree_sizes = grows_on t3.sizes (after_test t k e).sizes (function_at program f).sizes (stmt_grows t3 test) (grows_on (after_test t k e).sizes (stmt_after (after_test t k e) body).sizes (function_at program f).sizes (stmt_grows (after_test t k e) body) last);
        plain = h.plain.0;
        in_text = occurs_first text_calls s.site (expr_places is_call e) (stmt_places is_call p) h.in_text;
        in_tree = parts.0;
      }) in
      let inner = body_fits true cond.next k1 s1 (after_test t k e) p h.named.1 h.for_whole
      (place_on cond.next (counted s (calls_in e)) t3 s1 (after_test t k e) cond.place refl refl (omega arith) (grows_length t3.sizes (after_test t k e).sizes (stmt_grows t3 test)))
      (both_none (stmt_faults gives true (after_test t k e) body) [] two.1).0 h.text_sizes last h.plain.1 (after_expr s e (stmt_places is_call p) h.in_text) (one_has (after_test t k e) body tail.1) in
      let ends = rest true (Some a) cond.next k1 s1 inner.0.place (InLoops.OneLeft true a cond.next cond.more) inner.1 in
      record {
        next = a;
        sound = (within_self a, inr (held, cond.sound, body_sound true (Some a) a a cond.next k1 s1 (after_test t k e) p cond.fewer cond.more inner.0 ends));
        place = subst (λ ss. PlaceFits a (deep.stmt_after s (RawWhile e p)) (after t ss)) (sym same) (place_on a s t (deep.stmt_after s (RawWhile e p)) (stmt_after t whole_) h.place refl refl
            (grows_length s.sizes (deep.stmt_after s1 p).sizes (stmt_text s1 p)) (grows_length t.sizes (stmt_after t whole_).sizes (stmt_grows t whole_)));
        more = within_self a;
      }

  while_sound : (e : RawExprTree) (p : RawStmtTree) → Sounds p → (b : Bool) → holds_call e ≡ b → (loop : Bool) (o : Option Agreement) (a : Agreement) (k : ℕ) (s t : Spot) → Fit loop a k s t (RawWhile e p) → StmtEnds o a k s t (RawWhile e p)
  while_sound e p rest true is loop o a k s t h = calling_while e p rest is loop o a k s t h
  while_sound e p rest false is loop o a k s t h = plain_while e p rest is loop o a k s t h

  mutual
    pub stmt_sound : (p : RawStmtTree) (loop : Bool) (o : Option Agreement) (a : Agreement) (k : ℕ) (s t : Spot) → InLoops loop o a → Fit loop a k s t p → StmtEnds o a k s t p
    stmt_sound (RawDo p) loop o a k s t loops h =
        let e = simple_sound text program ns text_calls tree_calls f limits gives loop a k s t p
        (record { named = h.named; place = h.place; fine = h.fine; text_sizes = h.text_sizes; tree_sizes = h.tree_sizes; plain = h.plain; in_text = h.in_text; in_tree = h.in_tree }) in
        record { next = e.next; sound = e.sound; place = e.place; more = e.more }
    stmt_sound RawEmpty loop o a k s t loops h = record { next = a; sound = within_self a; place = h.place; more = within_self a }
    stmt_sound (RawBlock ps) loop o a k s t loops h =
        let fine = one_fine gives loop t (in_block (all_hoisted k ps)) h.fine in
        let has = one_has t (in_block (all_hoisted k ps)) h.in_tree in
        let ends = stmts_sound ps loop o a k (inside s) (inside t) loops (record {
          named = h.named;
          for_whole = h.for_whole;
          place = place_on a s t (inside s) (inside t) h.place refl refl (omega arith) (omega arith);
          fine = fine;
          text_sizes = h.text_sizes;
          tree_sizes = h.tree_sizes;
          plain = h.plain;
          in_text = h.in_text;
          in_tree = record { occurs = has.occurs; few = has.few; whole = all_of (all_hoisted k ps) has.whole };
        }) in
        record {
          next = a;
          sound = (ends.next, ends.more, ends.sound);
          place = place_on a s t (deep.stmt_after s (RawBlock ps)) (after t (hoisted k (RawBlock ps))) h.place refl refl (grows_length s.sizes (deep.stmts_after (inside s) ps).sizes (stmts_text (inside s) ps))
              (grows_length t.sizes (stmt_after t (in_block (all_hoisted k ps))).sizes (stmt_grows t (in_block (all_hoisted k ps))));
          more = within_self a;
        }
    stmt_sound (RawIf e p) loop o a k s t loops h =
        let left_ = left_of k e in
        let t1 = after t (before k e) in
        let s1 = inside (counted s (calls_in e)) in
        let body = as_body (hoisted (k + names_in e) p) in
        let parent = parent_fits loop k t e (RawIf left_ body) h.fine h.tree_sizes h.in_tree in
        let faults = both_none (expr_faults t1.names left_) (stmt_faults gives loop (inside t1) body) parent.left_fine in
        let cond = condition_sound text program ns text_calls tree_calls f limits gives loop a k s t e (record {
          named = h.named.0;
          place = h.place;
          fine = parent.fine;
          left_fine = faults.0;
          tree_sizes = parent.before_sizes;
          plain = h.plain.0;
          in_text = occurs_first text_calls s.site (expr_places is_call e) (stmt_places is_call p) h.in_text;
          in_tree = parent.in_before;
        }) in
        let inner = body_fits loop cond.next (k + names_in e) s1 (inside t1) p h.named.1 h.for_whole
        (place_on cond.next (counted s (calls_in e)) t1 s1 (inside t1) cond.place refl refl (omega arith) (omega arith)) faults.1 h.text_sizes parent.left_sizes h.plain.1
        (after_expr s e (stmt_places is_call p) h.in_text) (one_tree_has t1 left_ body (left_whole k e) (one_has t1 (RawIf left_ body) parent.in_left)) in
        let ends = stmt_sound p loop o cond.next (k + names_in e) s1 inner.0.place (loops_on loop o a cond.next cond.more loops) inner.1 in
        record {
          next = cond.next;
          sound = (cond.sound, cond.fewer, body_sound loop o a cond.next cond.next (k + names_in e) s1 (inside t1) p cond.fewer (within_self cond.next) inner.0 ends);
          place = after_place cond.next k (counted s (calls_in e)) (deep.stmt_after s (RawIf e p)) t e (RawIf left_ body) cond.place refl refl (grows_length s.sizes (deep.stmt_after s1 p).sizes (stmt_text s1 p));
          more = cond.more;
        }
    stmt_sound (RawIfElse e p r) loop o a k s t loops h =
        let left_ = left_of k e in
        let k1 = k + names_in e in
        let t1 = after t (before k e) in
        let s1 = inside (counted s (calls_in e)) in
        let body = as_body (hoisted k1 p) in
        let k2 = k + names_in e + stmt_names p in
        let t2 = inside (left t1 (stmt_after (inside t1) body)) in
        let s2 = inside (left s (deep.stmt_after s1 p)) in
        let other = as_body (hoisted k2 r) in
        let parent = parent_fits loop k t e (RawIfElse left_ body other) h.fine h.tree_sizes h.in_tree in
        let faults = both_none (expr_faults t1.names left_) (stmt_faults gives loop (inside t1) body ++ stmt_faults gives loop t2 other) parent.left_fine in
        let bodies = both_none (stmt_faults gives loop (inside t1) body) (stmt_faults gives loop t2 other) faults.1 in
        let cond = condition_sound text program ns text_calls tree_calls f limits gives loop a k s t e (record {
          named = h.named.0;
          place = h.place;
          fine = parent.fine;
          left_fine = faults.0;
          tree_sizes = parent.before_sizes;
          plain = h.plain.0;
          in_text = occurs_first text_calls s.site (expr_places is_call e) (stmt_places is_call p ++ stmt_places is_call r) h.in_text;
          in_tree = parent.in_before;
        }) in
        let has = two_tree_has t1 left_ body other (left_whole k e) (one_has t1 (RawIfElse left_ body other) parent.in_left) in
        let calls = after_expr s e (stmt_places is_call p ++ stmt_places is_call r) h.in_text in
        let grown = stmt_grows (inside t1) body in
        let one = body_fits loop cond.next k1 s1 (inside t1) p h.named.1 h.for_whole.0 (place_on cond.next (counted s (calls_in e)) t1 s1 (inside t1) cond.place refl refl (omega arith) (omega arith)) bodies.0
        (grows_on (deep.stmt_after s1 p).sizes (deep.stmt_after s2 r).sizes (frames.function_at text f).sizes (stmt_text s2 r) h.text_sizes)
        (grows_on (stmt_after (inside t1) body).sizes (stmt_after t2 other).sizes (function_at program f).sizes (stmt_grows t2 other) parent.left_sizes) h.plain.1
        (occurs_first text_calls s1.site (stmt_places is_call p) (stmt_places is_call r) calls) has.0 in
        let two = body_fits loop cond.next k2 s2 t2 r h.named.2 h.for_whole.1
        (place_on cond.next (counted s (calls_in e)) t1 s2 t2 cond.place refl refl (grows_length s.sizes (deep.stmt_after s1 p).sizes (stmt_text s1 p)) (grows_length t1.sizes (stmt_after (inside t1) body).sizes grown)) bodies.1
        h.text_sizes parent.left_sizes h.plain.2
        (occurs_as text_calls (s1.site + length (stmt_places is_call p)) s2.site (stmt_places is_call r) (stmt_places is_call r) (sym (deep_site s1 p)) refl (occurs_second text_calls s1.site (stmt_places is_call p) (stmt_places is_call r) calls)) has.1 in
        let ends = stmt_sound p loop o cond.next k1 s1 one.0.place (loops_on loop o a cond.next cond.more loops) one.1 in
        let others = stmt_sound r loop o cond.next k2 s2 two.0.place (loops_on loop o a cond.next cond.more loops) two.1 in
        record {
          next = cond.next;
          sound = (cond.sound, cond.fewer, body_sound loop o a cond.next cond.next k1 s1 (inside t1) p cond.fewer (within_self cond.next) one.0 ends, body_sound loop o a cond.next cond.next k2 s2 t2 r cond.fewer (within_self cond.next) two.0 others);
          place = after_place cond.next k (counted s (calls_in e)) (deep.stmt_after s (RawIfElse e p r)) t e (RawIfElse left_ body other) cond.place refl refl
              (grows_length s.sizes (deep.stmt_after s (RawIfElse e p r)).sizes (stmt_text s (RawIfElse e p r)));
          more = cond.more;
        }
    stmt_sound (RawWhile e p) loop o a k s t loops h =
        while_sound e p (λ loop' o' a' k' s' t' loops' h'. stmt_sound p loop' o' a' k' s' t' loops' h') (holds_call e) refl loop o a k s t h
    stmt_sound (RawFor init c step p) loop o a k s t loops h =
        let body = as_body (hoisted k p) in
        let all = RawFor init c step body in
        let s0 = inside s in
        let t0 = inside t in
        let s1 = deep.simples_after s0 init in
        let t1 = tree_simples.simples_after t0 init in
        let s2 = deep.optional_after s1 c in
        let s3 = deep.step_after s2 step in
        let t3 = tree_stmts.step_after t1 step in
        let xs = simples_places is_call init in
        let cs = optional_places is_call c in
        let zs = step_places is_call step in
        let text_body = stmt_places is_call p in
        let tree_body = stmt_places is_call body in
        let faults = both_none (simples_faults t0 init) (condition_faults t1.names c ++ (step_faults t1 step ++ stmt_faults gives true (inside t3) body)) (one_fine gives loop t all h.fine) in
        let later = both_none (condition_faults t1.names c) (step_faults t1 step ++ stmt_faults gives true (inside t3) body) faults.1 in
        let last = both_none (step_faults t1 step) (stmt_faults gives true (inside t3) body) later.1 in
        let has = one_has t all h.in_tree in
        let calls : Has text program ns text_calls tree_calls f limits gives loop t0.site (xs ++ (cs ++ (zs ++ tree_body))) = record { occurs = has.occurs; few = has.few } in
        let init_calls = has_first text program ns text_calls tree_calls f limits gives loop t0.site xs (cs ++ (zs ++ tree_body)) calls in
        let site1 = tree_sites text program ns text_calls tree_calls f limits gives loop t0 init h.for_whole.0 init_calls in
        let none : cs ≡ [] = no_optional text program ns text_calls tree_calls f limits gives loop c h.for_whole.1 in
        let after_init = has_second text program ns text_calls tree_calls f limits gives loop t0.site t1.site xs (cs ++ (zs ++ tree_body)) site1 calls in
        let from_step : Has text program ns text_calls tree_calls f limits gives loop t1.site (zs ++ tree_body) = subst (λ (os : List ℕ). Has text program ns text_calls tree_calls f limits gives loop t1.site (os ++ (zs ++ tree_body))) none after_init in
        let step_calls = has_first text program ns text_calls tree_calls f limits gives loop t1.site zs tree_body from_step in
        let site3 = step_tree_site text program ns text_calls tree_calls f limits gives loop t1 step h.for_whole.2 step_calls in
        let body_calls = has_second text program ns text_calls tree_calls f limits gives loop t1.site t3.site zs tree_body site3 from_step in
        let no_calls = has_first text program ns text_calls tree_calls f limits gives loop t1.site [] (zs ++ tree_body) from_step in
        let text1 = occurs_as text_calls (s.site + length xs) s1.site (cs ++ (zs ++ text_body)) (cs ++ (zs ++ text_body)) (sym (simples_site s0 init)) refl (occurs_second text_calls s.site xs (cs ++ (zs ++ text_body)) h.in_text) in
        let text2 = occurs_as text_calls (s1.site + length cs) s2.site (zs ++ text_body) (zs ++ text_body) (sym (optional_site s1 c)) refl (occurs_second text_calls s1.site cs (zs ++ text_body) text1) in
        let text3 = occurs_as text_calls (s2.site + length zs) s3.site text_body text_body (sym (step_site s2 step)) refl (occurs_second text_calls s2.site zs text_body text2) in
        let text_last = grows_on s3.sizes (deep.stmt_after (inside s3) p).sizes (frames.function_at text f).sizes (stmt_text (inside s3) p) h.text_sizes in
        let text_middle = grows_on s1.sizes s2.sizes (frames.function_at text f).sizes (optional_text s1 c) (grows_on s2.sizes s3.sizes (frames.function_at text f).sizes (step_text s2 step) text_last) in
        let tree_last = grows_on t3.sizes (stmt_after (inside t3) body).sizes (function_at program f).sizes (stmt_grows (inside t3) body) h.tree_sizes in
        let tree_middle = grows_on t1.sizes t3.sizes (function_at program f).sizes (step_grows text program ns text_calls tree_calls f limits gives loop t1 step) tree_last in
        let parts = parts_sound text program ns text_calls tree_calls f limits gives loop a k s0 t0 init h.for_whole.0 h.named.0 (place_on a s t s0 t0 h.place refl refl (omega arith) (omega arith)) faults.0 text_middle tree_middle
        (occurs_first text_calls s.site xs (cs ++ (zs ++ text_body)) h.in_text) init_calls in
        let m = parts.next in
        let turn = turn_sound text program ns text_calls tree_calls f limits gives loop m k s1 t1 c h.for_whole.1 h.named.1 parts.place later.0 tree_middle (occurs_first text_calls s1.site cs (zs ++ text_body) text1) no_calls in
        let stepped = step_sound text program ns text_calls tree_calls f limits gives loop m k s2 t1 step h.for_whole.2 h.named.2 (optional_place text program ns text_calls tree_calls f limits gives loop m s1 t1 c parts.place) last.0 text_last tree_last
        (occurs_first text_calls s2.site zs text_body text2) step_calls in
        let inner = body_fits true m k (inside s3) (inside t3) p h.named.3 h.for_whole.3 (place_on m s3 t3 (inside s3) (inside t3) stepped.1 refl refl (omega arith) (omega arith)) last.1 h.text_sizes h.tree_sizes h.plain text3
        (record { occurs = body_calls.occurs; few = body_calls.few; whole = has.whole.3 }) in
        let ends = stmt_sound p true (Some m) m k (inside s3) inner.0.place (InLoops.OneLeft true m m (within_self m)) inner.1 in
        record {
          next = a;
          sound = (m, parts.more, parts.sound, turn, stepped.0, body_sound true (Some m) m m m k (inside s3) (inside t3) p (within_self m) (within_self m) inner.0 ends);
          place = place_on a s t (deep.stmt_after s (RawFor init c step p)) (stmt_after t all) h.place refl refl (grows_length s.sizes (deep.stmt_after s (RawFor init c step p)).sizes (stmt_text s (RawFor init c step p)))
              (grows_length t.sizes (stmt_after t all).sizes (stmt_grows t all));
          more = within_self a;
        }
    stmt_sound (RawBreak at) loop o a k s t loops h = record { next = a; sound = jump_sound loop o a at t loops (one_fine gives loop t (RawBreak at) h.fine); place = h.place; more = within_self a }
    stmt_sound (RawContinue at) loop o a k s t loops h = record { next = a; sound = jump_sound loop o a at t loops (one_fine gives loop t (RawContinue at) h.fine); place = h.place; more = within_self a }
    stmt_sound (RawReturn at None) loop o a k s t loops h = record { next = a; sound = tt; place = h.place; more = within_self a }
    stmt_sound (RawReturn at (Some v)) loop o a k s t loops h =
        let own = RawReturn at (Some (value_left k v)) in
        let t1 = after t (value_before k v) in
        let both = both_fine gives loop t (value_before k v) (own ∷ []) h.fine in
        let faults = both_none (broken (not gives) at Rule.Kind) (right_faults t1.names (value_left k v)) (one_fine gives loop t1 own both.1) in
        let has = tree_both tree_calls t (value_before k v) (own ∷ []) h.in_tree in
        let last = one_has t1 own has.1 in
        let joined : after t (value_before k v ++ own ∷ []) ≡ stmt_after t1 own = after_both t (value_before k v) (own ∷ []) in
        let side = side_sound text program ns text_calls tree_calls f limits gives loop true a k s t v (record {
          named = h.named;
          place = h.place;
          fine = both.0;
          left_fine = sym (right_is_side t1.names (value_left k v)) ∙ faults.1;
          tree_sizes = subst (λ (u : Spot). Grows u.sizes (function_at program f).sizes) joined h.tree_sizes;
          plain = h.plain;
          in_text = h.in_text;
          in_tree = has.0;
          left_calls = last.occurs;
        }) in
        record {
          next = side.next;
          sound = side.sound;
          place = subst (λ u. PlaceFits side.next (counted s (calls_in v)) u) (sym joined) (place_on side.next (counted s (calls_in v)) t1 (counted s (calls_in v)) (stmt_after t1 own) side.place refl refl (omega arith) (omega arith));
          more = side.more;
        }

    pub stmts_sound : (ps : RawStmtTrees) (loop : Bool) (o : Option Agreement) (a : Agreement) (k : ℕ) (s t : Spot) → InLoops loop o a → StmtsFit text program ns text_calls tree_calls f gives loop a k s t ps → StmtsEnd o a k s t ps
    stmts_sound NoRawStmts loop o a k s t loops h = record { next = a; sound = within_self a; more = within_self a }
    stmts_sound (RawThen p ps) loop o a k s t loops h =
        let t1 = after t (hoisted k p) in
        let rest = all_hoisted (k + stmt_names p) ps in
        let fine = both_fine gives loop t (hoisted k p) rest h.fine in
        let has = tree_both tree_calls t (hoisted k p) rest h.in_tree in
        let last : Grows (stmts_after t1 (raw_in_order rest)).sizes (function_at program f).sizes = subst (λ (u : Spot). Grows u.sizes (function_at program f).sizes) (after_both t (hoisted k p) rest) h.tree_sizes in
        let one = stmt_sound p loop o a k s t loops (record {
          named = h.named.0;
          for_whole = h.for_whole.0;
          place = h.place;
          fine = fine.0;
          text_sizes = grows_on (deep.stmt_after s p).sizes (deep.stmts_after (deep.stmt_after s p) ps).sizes (frames.function_at text f).sizes (stmts_text (deep.stmt_after s p) ps) h.text_sizes;
          tree_sizes = grows_on t1.sizes (stmts_after t1 (raw_in_order rest)).sizes (function_at program f).sizes (stmts_grow t1 (raw_in_order rest)) last;
          plain = h.plain.0;
          in_text = occurs_first text_calls s.site (stmt_places is_call p) (stmts_places is_call ps) h.in_text;
          in_tree = has.0;
        }) in
        let others = stmts_sound ps loop o one.next (k + stmt_names p) (deep.stmt_after s p) t1 (loops_on loop o a one.next one.more loops) (record {
          named = h.named.1;
          for_whole = h.for_whole.1;
          place = one.place;
          fine = fine.1;
          text_sizes = h.text_sizes;
          tree_sizes = last;
          plain = h.plain.1;
          in_text = occurs_as text_calls (s.site + length (stmt_places is_call p)) (deep.stmt_after s p).site (stmts_places is_call ps) (stmts_places is_call ps) (sym (deep_site s p)) refl (occurs_second text_calls s.site (stmt_places is_call p) (stmts_places is_call ps) h.in_text);
          in_tree = has.1;
        }) in
        record { next = others.next; sound = (one.next, one.sound, others.sound); more = within_on a one.next others.next one.more others.more }
