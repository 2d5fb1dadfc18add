-- Each function of the text is sound in the tree.
use Rattle.hoist_meaning.proofs.Common.{ℕ, ◌+◌, ◌≡◌, ◌<◌, ◌≤◌, refl, sym, ap, subst, ◌∙◌, ⊎_elim, Bool, true, false, List, [], ◌∷◌, ◌++◌, length, drop, map, append_assoc, length-append, None, arith, slice_index_or, cases_lt, zeros, scalars, NameTree, RawStmtTrees, RawItemTree, RawTableItem, RawPrototypeItem, RawFunctionItem, NoRawStmts, raw_in_order, FunctionTree, ProgramTree, capped, AreForsWhole, IsItemForWhole, AreForPartsWhole, function_at, Binding, find, Spot, stmts_after, stmts_faults, Sofar, function_faults, main_faults, params_faults, params_spot, body_spot, function_tree_of, item_faults, items_faults, item_after, items_after, number_at, stmts_numbered, function_numbered, both_none, is_call, Used, Declared, stmts_places, names_places, parameters_places, item_places, items_places, no_declared, no_used, no_parameters, DeepFunction, DeepProgram, DeepSofar, item_hoisted, items_hoisted, all_hoisted, in_order_whole, all_hoisted_whole, StandsAt, IsItemPlain, AreItemsPlain, IsItemNamed, AreItemsNamed, params_site}
use Rattle.c_tree.specs.Trees as tree
use Rattle.scope_rules.specs.Statements as tree_stmts
use Rattle.deep_mean.specs.DeepTrees as deep_tree
use Rattle.deep_mean.specs.DeepFrames as frames
use Rattle.deep_mean.specs.Naming as deep
use Rattle.hoist_meaning.proofs.Bindings.{Outside}
use Rattle.hoist_meaning.proofs.Items.{after}
use Rattle.hoist_meaning.proofs.Frames.{Words}
use Rattle.hoist_meaning.proofs.Sizes.{Grows, grows_none, stmts_grow}
use Rattle.hoist_meaning.proofs.SiteNumbers.{Occurs, occurs_first, occurs_second, occurs_as, stmts_site}
use Rattle.hoist_meaning.proofs.Fits.{Whole, StmtsFit}
use Rattle.hoist_meaning.proofs.Pieces.{stmts_text}
use Rattle.hoist_meaning.proofs.TextSites.{deep_sites}
use Rattle.hoist_meaning.proofs.Loops.{InLoops}
use Rattle.hoist_meaning.proofs.StmtSounds.{stmts_sound}
use Rattle.hoist_meaning.proofs.Starts.{ones, start_words}
use Rattle.hoist_meaning.proofs.Fewer.{stmts_no_more}
use Rattle.hoist_meaning.proofs.Parameters.{OuterNames, BodyStarts, item_outer, body_starts}
use Rattle.hoist_meaning.proofs.SourceItems.{SofarAlike, item_alike, text_later, tree_later, seam, at_numbered, past}
use Rattle.hoist_meaning.proofs.Programs.{FunctionSound}

module _ (text : DeepProgram) (program : ProgramTree) (ns text_calls tree_calls : List ℕ) where
  -- a function whose body begins here
  module _ (f : ℕ) (s t : Spot) (params : ℕ) (body : RawStmtTrees) (gives : Bool) (starts : BodyStarts s t params) where
    -- what is known of its body, and of it in the two programs
    pub record IsFunction : Type 0 where
      pub in_text : frames.function_at text f ≡ record { params = params; sizes = (deep.stmts_after s body).sizes; body = deep.stmts_of s body }
      pub tree_body : (function_at program f).body ≡ stmts_numbered ns (tree_stmts.stmts_of t (raw_in_order (all_hoisted 0 body)))
      pub tree_sizes : (function_at program f).sizes ≡ (after t (all_hoisted 0 body)).sizes
      pub tree_params : (function_at program f).params ≡ params
      pub few : length (function_at program f).sizes ≤ 65536
      pub calls_few : length tree_calls ≤ 65536
      pub numbers : (j k at : ℕ) → StandsAt tree_calls j at → StandsAt text_calls k at → number_at ns j ≡ k

    limits_of : IsFunction → Whole text program ns text_calls tree_calls f
    limits_of h =
        let more = stmts_no_more body 0 s t in
        let one : length s.sizes ≡ length (ones params) = ap length starts.text_ones in
        let other : length t.sizes ≡ length (ones params) = ap length starts.tree_ones in
        let there : length (function_at program f).sizes ≡ length (after t (all_hoisted 0 body)).sizes = ap length h.tree_sizes in
        let here : length (frames.function_at text f).sizes ≡ length (deep.stmts_after s body).sizes = ap (λ (d : DeepFunction). length d.sizes) h.in_text in
        let bound_ = h.few in
        record { text_few = omega (arith, more, one, other, there, here, bound_); tree_few = h.few; calls_few = h.calls_few; numbers = h.numbers }

    pub function_sound : IsFunction → StmtsFit text program ns text_calls tree_calls f gives false starts.first 0 s t body → FunctionSound text program ns f
    function_sound h fits =
        let ends = stmts_sound text program ns text_calls tree_calls f (limits_of h) gives body false None starts.first 0 s t (InLoops.NoneLeft starts.first) fits in
        let text_grows = stmts_text s body in
        let tree_grows = stmts_grow t (raw_in_order (all_hoisted 0 body)) in
        record {
          body = body;
          first = starts.first;
          last = ends.next;
          there = s;
          here = t;
          in_text = ap (λ (d : DeepFunction). d.body) h.in_text;
          in_tree = h.tree_body;
          sound = ends.sound;
          words = λ arguments many.
              let count : length arguments ≡ params = many ∙ h.tree_params in
              start_words text program f starts.first arguments text_grows.more tree_grows.more (λ x y p. let q = starts.pairs x y p in (q.0, (let small = q.1 in omega (arith, small, count))))
              (ap (λ (d : DeepFunction). d.sizes) h.in_text ∙ text_grows.is ∙ ap (λ (sizes : List ℕ). sizes ++ text_grows.more) (starts.text_ones ∙ ap ones (sym count)))
              (h.tree_sizes ∙ tree_grows.is ∙ ap (λ (sizes : List ℕ). sizes ++ tree_grows.more) (starts.tree_ones ∙ ap ones (sym count)));
        }

-- places that stand in all of them leave room for themselves
occurs_few : (all : List ℕ) (j : ℕ) (xs : List ℕ) → Occurs all j xs → j + length xs ≤ length all
occurs_few all j xs h =
    let one = length-append h.earlier (xs ++ h.later) in
    let other = length-append xs h.later in
    let same : length all ≡ length (h.earlier ++ (xs ++ h.later)) = ap length h.is in
    let many = h.many in omega (arith, one, other, same, many)

-- ---- the numbers of calls, item by item

after_declared : (params : List NameTree) (xs : List ℕ) → names_places is_call Declared params ++ xs ≡ xs
after_declared params xs = ap (λ (ps : List ℕ). ps ++ xs) (no_declared params)

item_text_site : (one : List Binding) (w : DeepSofar) (i : RawItemTree) → (deep.item_after one w i).spot.site ≡ w.spot.site + length (item_places is_call i)
item_text_site one w (RawTableItem n size members) = let none : length (names_places is_call Used members) ≡ 0 = ap length (no_used members) in omega (arith, none)
item_text_site one w (RawPrototypeItem gives n params) = let none : length (parameters_places is_call params) ≡ 0 = ap length (no_parameters params) in omega (arith, none)
item_text_site one w (RawFunctionItem gives n params body) =
    let b = body_spot one w.spot gives n params in
    let first : b.site ≡ w.spot.site = params_site (params_spot one w.spot gives n params) params in
    let rest = deep_sites b body in
    let same : length (names_places is_call Declared params ++ stmts_places is_call body) ≡ length (stmts_places is_call body) = ap length (after_declared params (stmts_places is_call body)) in omega (arith, first, rest, same)
item_text_site one w _ = omega arith

item_tree_site : (other : List Binding) (v : Sofar) (i : RawItemTree) → IsItemForWhole i → v.spot.site + length (item_places is_call (item_hoisted i)) ≤ 65536 → (item_after other v (item_hoisted i)).spot.site ≡ v.spot.site + length (item_places is_call (item_hoisted i))
item_tree_site other v (RawTableItem n size members) w few = let none : length (names_places is_call Used members) ≡ 0 = ap length (no_used members) in omega (arith, none)
item_tree_site other v (RawPrototypeItem gives n params) w few = let none : length (parameters_places is_call params) ≡ 0 = ap length (no_parameters params) in omega (arith, none)
item_tree_site other v (RawFunctionItem gives n params body) w few =
    let b = body_spot other v.spot gives n params in
    let there = raw_in_order (all_hoisted 0 body) in
    let first : b.site ≡ v.spot.site = params_site (params_spot other v.spot gives n params) params in
    let same : length (names_places is_call Declared params ++ stmts_places is_call there) ≡ length (stmts_places is_call there) = ap length (after_declared params (stmts_places is_call there)) in
    let rest = stmts_site b there (in_order_whole (all_hoisted 0 body) (all_hoisted_whole 0 body w)) (omega (arith, few, first, same)) in omega (arith, first, rest, same)
item_tree_site other v _ w few = omega arith

abbrev no_deep : DeepFunction
no_deep = record { params = 0; sizes = []; body = deep_tree.NoStmts }

abbrev no_tree : FunctionTree
no_tree = record { name = []; params = 0; gives = false; sizes = []; body = tree.NoStmts }

module _ (text : DeepProgram) (program : ProgramTree) (ns text_calls tree_calls : List ℕ) (one other : List Binding) (same : one ≡ other)
    (sizes_few : (f : ℕ) → length (function_at program f).sizes ≤ 65536) (params_few : (f : ℕ) → (function_at program f).params ≤ 6) (calls_few : length tree_calls ≤ 65536)
    (numbers : (j k at : ℕ) → StandsAt tree_calls j at → StandsAt text_calls k at → number_at ns j ≡ k) where
  abbrev AllSound : ℕ → Type 0
  AllSound n = (f : ℕ) → f < n → FunctionSound text program ns f

  -- the next function
  next_sound : (w : DeepSofar) (v : Sofar) (gives : Bool) (n : NameTree) (params : List NameTree) (body : RawStmtTrees) (is : List RawItemTree) → SofarAlike w v → OuterNames w.spot.names → IsItemNamed (RawFunctionItem gives n params body) → AreForsWhole body
      → IsItemPlain (RawFunctionItem gives n params body) → item_faults other v (item_hoisted (RawFunctionItem gives n params body)) ≡ [] → text.functions ≡ (deep.items_after one w (RawFunctionItem gives n params body ∷ is)).functions
      → program.functions ≡ map (function_numbered ns) (items_after other v (items_hoisted (RawFunctionItem gives n params body ∷ is))).functions
      → Occurs text_calls w.spot.site (item_places is_call (RawFunctionItem gives n params body)) → Occurs tree_calls v.spot.site (item_places is_call (item_hoisted (RawFunctionItem gives n params body)))
      → FunctionSound text program ns (length w.functions)
  next_sound w v gives n params body is alike outer named fors plain fine in_text in_tree text_has tree_has =
      let f = length w.functions in
      let s = body_spot one w.spot gives n params in
      let t = body_spot other v.spot gives n params in
      let there = raw_in_order (all_hoisted 0 body) in
      let d : DeepFunction = record { params = length params; sizes = (deep.stmts_after s body).sizes; body = deep.stmts_of s body } in
      let g : FunctionTree = function_tree_of t gives n params there in
      let item = RawFunctionItem gives n params body in
      let text_more = text_later one (deep.item_after one w item) is in
      let tree_more = tree_later other (item_after other v (item_hoisted item)) (items_hoisted is) in
      let all_text : text.functions ≡ w.functions ++ d ∷ text_more.more = in_text ∙ text_more.is ∙ append_assoc w.functions (d ∷ []) text_more.more in
      let all_tree : (items_after other v (items_hoisted (item ∷ is))).functions ≡ v.functions ++ g ∷ tree_more.more = tree_more.is ∙ append_assoc v.functions (g ∷ []) tree_more.more in
      let here : frames.function_at text f ≡ d = ap (λ (ds : List DeepFunction). slice_index_or ds f no_deep) all_text ∙ seam w.functions d text_more.more no_deep in
      let tree_here : function_at program f ≡ function_numbered ns g =
      ap (λ (fs : List FunctionTree). slice_index_or fs f no_tree) in_tree ∙ at_numbered ns (items_after other v (items_hoisted (item ∷ is))).functions f
      ∙ ap (function_numbered ns) (ap (λ (fs : List FunctionTree). slice_index_or fs f no_tree) all_tree ∙ ap (λ (j : ℕ). slice_index_or (v.functions ++ g ∷ tree_more.more) j no_tree) alike.functions ∙ seam v.functions g tree_more.more no_tree) in
      let capped_params : (function_at program f).params ≡ capped (length params) = ap (λ (x : FunctionTree). x.params) tree_here in
      let bound_ = params_few f in
      let few : length params ≤ 6 = omega (arith, capped_params, bound_) in
      let starts = body_starts one other w.spot v.spot gives n params same alike.names named.0 named.1 (omega (arith, few)) outer in
      let faults_1 = both_none (function_faults true gives (length params) n.at (find n.text v.spot.names)) _ fine in
      let faults_2 = both_none (main_faults n (length params)) _ faults_1.1 in
      let faults_3 = both_none (params_faults (params_spot other v.spot gives n params) params) (stmts_faults gives false t there) faults_2.1 in
      let text_site : s.site ≡ w.spot.site = params_site (params_spot one w.spot gives n params) params in
      let tree_site : t.site ≡ v.spot.site = params_site (params_spot other v.spot gives n params) params in
      let tree_occurs = occurs_as tree_calls v.spot.site t.site (names_places is_call Declared params ++ stmts_places is_call there) (stmts_places is_call there) (sym tree_site) (after_declared params (stmts_places is_call there)) tree_has in
      let room = occurs_few tree_calls t.site (stmts_places is_call there) tree_occurs in
      function_sound text program ns text_calls tree_calls f s t (length params) body gives starts
      (record {
        in_text = here;
        tree_body = ap (λ (x : FunctionTree). x.body) tree_here;
        tree_sizes = ap (λ (x : FunctionTree). x.sizes) tree_here;
        tree_params = (omega (arith, capped_params, few));
        few = sizes_few f;
        calls_few = calls_few;
        numbers = numbers;
      })
      (record {
        named = named.2;
        for_whole = fors;
        place = starts.place;
        fine = faults_3.1;
        text_sizes = subst (λ (sizes : List ℕ). Grows (deep.stmts_after s body).sizes sizes) (sym (ap (λ (x : DeepFunction). x.sizes) here)) (grows_none (deep.stmts_after s body).sizes);
        tree_sizes = subst (λ (sizes : List ℕ). Grows (stmts_after t there).sizes sizes) (sym (ap (λ (x : FunctionTree). x.sizes) tree_here)) (grows_none (stmts_after t there).sizes);
        plain = plain;
        in_text = occurs_as text_calls w.spot.site s.site (names_places is_call Declared params ++ stmts_places is_call body) (stmts_places is_call body) (sym text_site) (after_declared params (stmts_places is_call body)) text_has;
        in_tree = record { occurs = tree_occurs; few = omega (arith, room, calls_few); whole = all_hoisted_whole 0 body fors };
      })

  -- as many as before, or one more
  more_sound : (w : DeepSofar) (v : Sofar) (i : RawItemTree) (is : List RawItemTree) → SofarAlike w v → OuterNames w.spot.names → IsItemNamed i → IsItemForWhole i → IsItemPlain i → item_faults other v (item_hoisted i) ≡ [] → text.functions ≡ (deep.items_after one w (i ∷ is)).functions
      → program.functions ≡ map (function_numbered ns) (items_after other v (items_hoisted (i ∷ is))).functions → Occurs text_calls w.spot.site (item_places is_call i) → Occurs tree_calls v.spot.site (item_places is_call (item_hoisted i))
      → AllSound (length w.functions) → AllSound (length (deep.item_after one w i).functions)
  more_sound w v (RawFunctionItem gives n params body) is alike outer named fors plain fine in_text in_tree text_has tree_has sound = λ f less.
      let s = body_spot one w.spot gives n params in
      let d : DeepFunction = record { params = length params; sizes = (deep.stmts_after s body).sizes; body = deep.stmts_of s body } in
      let long = length-append w.functions (d ∷ []) in
      ⊎_elim (λ (before_ : f < length w.functions). sound f before_)
      (λ (last : length w.functions ≤ f).
      let here : length w.functions ≡ f = omega (arith, last, less, long) in
      subst (λ (j : ℕ). FunctionSound text program ns j) here (next_sound w v gives n params body is alike outer named fors plain fine in_text in_tree text_has tree_has))
      (cases_lt f (length w.functions))
  more_sound w v _ is alike outer named fors plain fine in_text in_tree text_has tree_has sound = sound

  pub items_sound : (is : List RawItemTree) (w : DeepSofar) (v : Sofar) → SofarAlike w v → OuterNames w.spot.names → AreItemsNamed is → AreForPartsWhole is → AreItemsPlain is → items_faults other v (items_hoisted is) ≡ [] → text.functions ≡ (deep.items_after one w is).functions
      → program.functions ≡ map (function_numbered ns) (items_after other v (items_hoisted is)).functions → Occurs text_calls w.spot.site (items_places is_call is) → Occurs tree_calls v.spot.site (items_places is_call (items_hoisted is))
      → AllSound (length w.functions) → AllSound (length text.functions)
  items_sound [] w v alike outer named fors plain fine in_text in_tree text_has tree_has sound = subst (λ (ds : List DeepFunction). AllSound (length ds)) (sym in_text) sound
  items_sound (i ∷ is) w v alike outer named fors plain fine in_text in_tree text_has tree_has sound =
      let w' = deep.item_after one w i in
      let v' = item_after other v (item_hoisted i) in
      let faults = both_none (item_faults other v (item_hoisted i)) (items_faults other v' (items_hoisted is)) fine in
      let xs = item_places is_call i in
      let ys = item_places is_call (item_hoisted i) in
      let text_first = occurs_first text_calls w.spot.site xs (items_places is_call is) text_has in
      let tree_first = occurs_first tree_calls v.spot.site ys (items_places is_call (items_hoisted is)) tree_has in
      let room = occurs_few tree_calls v.spot.site ys tree_first in
      let tree_site = item_tree_site other v i fors.0 (omega (arith, room, calls_few)) in
      items_sound is w' v' (item_alike one other w v i same alike) (item_outer one w i named.0 outer) named.1 fors.1 plain.1 faults.1 in_text in_tree
      (occurs_as text_calls (w.spot.site + length xs) w'.spot.site (items_places is_call is) (items_places is_call is) (sym (item_text_site one w i)) refl (occurs_second text_calls w.spot.site xs (items_places is_call is) text_has))
      (occurs_as tree_calls (v.spot.site + length ys) v'.spot.site (items_places is_call (items_hoisted is)) (items_places is_call (items_hoisted is)) (sym tree_site) refl (occurs_second tree_calls v.spot.site ys (items_places is_call (items_hoisted is)) tree_has))
      (more_sound w v i is alike outer named.0 fors.0 plain.0 faults.0 in_text in_tree text_first tree_first sound)

  -- a number that no function has
  absent_sound : (f : ℕ) → frames.function_at text f ≡ no_deep → function_at program f ≡ no_tree → FunctionSound text program ns f
  absent_sound f in_text in_tree = record {
    body = NoRawStmts;
    first = Outside [];
    last = Outside [];
    there = nowhere;
    here = nowhere;
    in_text = ap (λ (d : DeepFunction). d.body) in_text;
    in_tree = ap (λ (g : FunctionTree). g.body) in_tree;
    sound = λ x y p. p;
    words = no_words;
  }
    where
      nowhere : Spot
      nowhere = record { names = []; outer = 0; sizes = []; site = 0 }

      no_words : (arguments : List ℕ) → length arguments ≡ (function_at program f).params
          → Words text program f (Outside []) (scalars arguments ++ zeros (drop (length arguments) (frames.function_at text f).sizes)) (scalars arguments ++ zeros (drop (length arguments) (function_at program f).sizes))
      no_words [] many = start_words text program f (Outside []) [] [] [] (λ x y p. absurd p) (ap (λ (d : DeepFunction). d.sizes) in_text) (ap (λ (g : FunctionTree). g.sizes) in_tree)
      no_words (x ∷ xs) many = absurd (let none : (function_at program f).params ≡ 0 = ap (λ (g : FunctionTree). g.params) in_tree in omega (arith, many, none))

  pub each_sound : length text.functions ≡ length program.functions → AllSound (length text.functions) → (f : ℕ) → FunctionSound text program ns f
  each_sound many sound f =
      ⊎_elim (λ (less : f < length text.functions). sound f less)
      (λ (beyond : length text.functions ≤ f). absent_sound f (past text.functions f no_deep beyond) (past program.functions f no_tree (omega (arith, beyond, many)))) (cases_lt f (length text.functions))
