-- The ends of an element that is set: the index, which is done before a right side with a call within it, and else is evaluated with it.
use Rattle.hoist_meaning.proofs.Common.{ℕ, ◌≡◌, ◌+◌, sym, ap, subst, ◌∙◌, Bool, true, false, List, [], ◌++◌, arith, Ok, Err, RawExprTree, ExprTree, RightTree, ProgramTree, Value, value, Item, Binding, expr_faults, expr_of, Spot, Evaluation, Trapped, evaluate, calls_in, holds_nested, is_named, one_if, names_in, part_after, part_or, part_named, left_of, before, value_names, value_left, value_before, AreSourceNames}
use Rattle.deep_mean.specs.Naming as deep
use Rattle.hoist_meaning.proofs.KnownSpawn.{AreFine}
use Rattle.hoist_meaning.proofs.Bindings.{Agreement, in_tree}
use Rattle.hoist_meaning.proofs.Items.{items_of, after, items_three}
use Rattle.hoist_meaning.proofs.Spots.{with_part, with_names, before_stands}
use Rattle.hoist_meaning.proofs.Extends.{extends_text, names_extend}
use Rattle.hoist_meaning.proofs.Ends.{Rows, NoCall, EndsAs, at_once, told_ends}
use Rattle.hoist_meaning.proofs.Premises.{after_part, SitesStand, KnowsSpawnAlone, IsPlaced, IsSound, Keeps, IsLeft, with_value_names, side_faults, side_left, IsSideLeft, IsSideCall, IsSideSound, index_by, IsElementLeft, IsElementCall, IsIndexLeft}
use Rattle.hoist_meaning.proofs.Settled.{keeps_on, less_placed, later_stands, placed_on, settled_value, settled_on}
use Rattle.hoist_meaning.proofs.Parts.{three_fine, part_fine, part_place, part_extend, PartIs, Evaluates, part_ends}
use Rattle.hoist_meaning.proofs.SidePlaces.{value_place, value_extend, no_value_names, no_value_before}
use Rattle.hoist_meaning.proofs.QuietSides.{AtOnce, quiet_side}

module _ (program : ProgramTree) (ns : List ℕ) (f : ℕ) (text : Rows) (ds : List Binding) (spawns : KnowsSpawnAlone ds) (gives loop : Bool) where
  -- what follows the index, where what goes before the right side is to do; whether the index is named where it isn't left alone
  module _ (named : Bool) (k v site : ℕ) (i e : RawExprTree) (s : Spot) (start : Rows) (rest : List Item) where
    abbrev pub between_by : List Item
    between_by = items_of ns (after_part s k named i) (value_before (part_after k named i) e) rest

    abbrev pub side_by : RightTree
    side_by = side_left ns (after_part s k named i) (part_after k named i) e

    abbrev pub AfterBy : Rows → Rows → Value → Type 0
    AfterBy globals later (Ok index) =
        EndsAs program f text true (IsElementLeft v (index_by named s k i e) side_by start index) (IsElementCall v (index_by named s k i e) side_by start index) rest globals later between_by (evaluate text globals (deep.expr_of ds (site + calls_in i) e))
    AfterBy globals later (Err trap) = EndsAs program f text true (IsIndexLeft v (index_by named s k i e) start) NoCall rest globals later between_by (Trapped trap)

  -- each right side that is e
  abbrev pub Sides : RawExprTree → Type 0
  Sides e =
      (a : Agreement) (k v site : ℕ) (s : Spot) (globals names : Rows) (rest : List Item) → IsPlaced text names ds a v (value_names e) s → IsSideSound ns gives loop true a k v site e s →
      EndsAs program f text true (IsSideLeft v (side_left ns s k e) names) (IsSideCall v (side_left ns s k e) names) rest globals names (items_of ns s (value_before k e) rest) (evaluate text globals (deep.expr_of ds site e))

  module _ (i e : RawExprTree) (whole_i : Evaluates program ns f text ds gives loop i) (whole_e : Sides e) where
    abbrev names_by : Bool → ℕ → ℕ → Agreement → Agreement
    names_by b k v a = with_value_names (part_after k b i) (part_after v b i) e (with_part (is_named b i) (k + names_in i) (v + names_in i) (with_names k v i a))

    pub record IsPair (b : Bool) (a : Agreement) (k v site : ℕ) (s : Spot) : Type 0 where
      pub index_source : AreSourceNames i
      pub source : AreSourceNames e
      pub fine : AreFine gives loop s (before k i ++ part_named (is_named b i) (k + names_in i) (left_of k i) ++ value_before (part_after k b i) e)
      pub index_fine : expr_faults (in_tree (names_by b k v a)) (part_or (is_named b i) (k + names_in i) (left_of k i)) ≡ []
      pub left_fine : side_faults true (in_tree (names_by b k v a)) (value_left (part_after k b i) e) ≡ []
      pub index_sites : SitesStand ns s k site i
      pub sites : SitesStand ns (after_part s k b i) (part_after k b i) (site + calls_in i) e

    abbrev pub EndsPair : Bool → Type 0
    EndsPair b =
        (a : Agreement) (k v site : ℕ) (s : Spot) (globals names : Rows) (rest : List Item) → IsPlaced text names ds a v (names_in i + one_if (is_named b i) + value_names e) s → IsPair b a k v site s →
        EndsAs program f text false (AfterBy b k v site i e s names rest) NoCall (between_by b k v site i e s names rest) globals names
        (items_of ns s (before k i ++ part_named (is_named b i) (k + names_in i) (left_of k i) ++ value_before (part_after k b i) e) rest) (evaluate text globals (deep.expr_of ds site i))

    -- ---- an index that is done

    after_done : (a : Agreement) (k v site : ℕ) (s : Spot) (others start later : Rows) (rest : List Item) → IsPlaced text start ds a v (names_in i + one_if (is_named true i) + value_names e) s → IsPair true a k v site s → (outcome : Value) →
        PartIs program ns f text (part_after k true i) (part_after v true i) (with_part (is_named true i) (k + names_in i) (v + names_in i) (with_names k v i a)) (part_or (is_named true i) (k + names_in i) (left_of k i)) v start others later outcome →
        AfterBy true k v site i e s start rest others later outcome
    after_done a k v site s others start later rest placed sound (Err trap) leaf = absurd leaf
    after_done a k v site s others start later rest placed sound (Ok index) leaf =
        let k1 = part_after k true i in
        let v1 = part_after v true i in
        let c = with_part (is_named true i) (k + names_in i) (v + names_in i) (with_names k v i a) in
        let d = with_value_names k1 v1 e c in
        let named = part_named (is_named true i) (k + names_in i) (left_of k i) in
        let part = part_or (is_named true i) (k + names_in i) (left_of k i) in
        let t = after_part s k true i in
        let few = placed.few in
        let room = names_in i + one_if (is_named true i) + value_names e in
        let place = part_place true a k v i s placed.place (omega (arith, few)) in
        let end = value_place c k1 v1 e t place (omega (arith, few)) in
        let side = side_by true k v site i e s start rest in
        let index_e = index_by true s k i e in
        let three = three_fine gives loop s (before k i) named (value_before k1 e) sound.fine in
        let sound_e : IsSideSound ns gives loop true c k1 v1 (site + calls_in i) e t = record { source = sound.source; fine = three.2; left_fine = sound.left_fine; sites = sound.sites } in
        let index_is : (others2 later2 : Rows) → Keeps v1 later later2 → value later2 others2 index_e ≡ Ok index = λ others2 later2 kept.
        ap (λ bs. value later2 others2 (expr_of bs part)) end.names ∙ settled_value k1 v1 d later2 others2 (settled_on k1 v1 (v1 + value_names e) c d later later2 leaf.1 (value_extend k1 v1 e c) kept) in
        told_ends program f text true (IsSideLeft v1 side later) (IsElementLeft v index_e side start index) (IsSideCall v1 side later) (IsElementCall v index_e side start index) rest
        (λ others2 later2 outcome leaf2. record { keeps = keeps_on v v1 start later later2 (omega arith) leaf.0 leaf2.keeps; index_is = index_is others2 later2 leaf2.keeps; is = leaf2.is })
        (λ others2 later2 call leaf2. record { keeps = keeps_on v v1 start later later2 (omega arith) leaf.0 leaf2.keeps; index_is = index_is others2 later2 leaf2.keeps; is = leaf2.is })
        (whole_e c k1 v1 (site + calls_in i) t others later rest (placed_on text start ds a c k v room v1 (value_names e) s t later placed (part_extend true a k v i) place leaf.0 (omega arith) (omega arith)) sound_e)

    pair_called : EndsPair true
    pair_called a k v site s globals names rest placed sound =
        let k1 = part_after k true i in
        let v1 = part_after v true i in
        let c = with_part (is_named true i) (k + names_in i) (v + names_in i) (with_names k v i a) in
        let named = part_named (is_named true i) (k + names_in i) (left_of k i) in
        let part = part_or (is_named true i) (k + names_in i) (left_of k i) in
        let few = placed.few in
        let room = names_in i + one_if (is_named true i) + value_names e in
        let between = between_by true k v site i e s names rest in
        let Part = PartIs program ns f text k1 v1 c part v names in
        let After = AfterBy true k v site i e s names rest in
        let three = three_fine gives loop s (before k i) named (value_before k1 e) sound.fine in
        let place = before_stands a k v i s placed.place (omega (arith, few)) in
        let sound_i : IsSound ns gives loop a k v site i s = record { source = sound.index_source; fine = three.0; left_fine = part_fine gives loop a k v i (after s (before k i)) place three.1; sites = sound.index_sites } in
        subst (λ items. EndsAs program f text false After NoCall between globals names items (evaluate text globals (deep.expr_of ds site i))) (sym (items_three ns s (before k i) named (value_before k1 e) rest))
        (told_ends program f text false Part After NoCall NoCall between (λ others later outcome leaf. after_done a k v site s others names later rest placed sound outcome leaf) (λ others later call none. none)
        (part_ends program ns f text ds gives loop i whole_i a k v site room s globals names between (omega arith) placed sound_i))

    -- ---- an index that is evaluated with the right side

    once_ends : (v index : ℕ) (i_tree : ExprTree) (side : RightTree) (others start later : Rows) (rest : List Item) → Keeps v start later → value later others i_tree ≡ Ok index → {ev : Evaluation} → AtOnce side others later ev →
        EndsAs program f text true (IsElementLeft v i_tree side start index) (IsElementCall v i_tree side start index) rest others later rest ev
    once_ends v index i_tree side others start later rest kept is (AtOnce.Outcome (Ok word) h) =
        EndsAs.Valued others later rest word later (at_once program f text others later rest) (record { keeps = kept; index_is = is; is = h })
    once_ends v index i_tree side others start later rest kept is (AtOnce.Outcome (Err trap) h) =
        EndsAs.Fails others later rest trap later (at_once program f text others later rest) (record { keeps = kept; index_is = is; is = h })
    once_ends v index i_tree side others start later rest kept is (AtOnce.WholeCall call h) =
        EndsAs.WholeCall others later rest call later (at_once program f text others later rest) (record { keeps = kept; index_is = is; is = h })

    after_quiet : holds_nested e ≡ false → (a : Agreement) (k v site : ℕ) (s : Spot) (others start later : Rows) (rest : List Item) → IsPlaced text start ds a v (names_in i + 0 + value_names e) s → IsPair false a k v site s → (outcome : Value) →
        IsLeft v (with_names k v i a) (left_of k i) start others later outcome → AfterBy false k v site i e s start rest others later outcome
    after_quiet quiet a k v site s others start later rest placed sound (Ok index) leaf =
        let k1 = part_after k false i in
        let v1 = part_after v false i in
        let b = with_names k v i a in
        let w = v + names_in i in
        let ext = names_extend k v i a in
        let t = after_part s k false i in
        let few = placed.few in
        let place = part_place false a k v i s placed.place (omega (arith, few)) in
        let end = value_place b k1 v1 e t place (omega (arith, few)) in
        let side = side_by false k v site i e s start rest in
        let index_e = index_by false s k i e in
        let three = three_fine gives loop s (before k i) [] (value_before k1 e) sound.fine in
        let sound_e : IsSideSound ns gives loop true b k1 v1 (site + calls_in i) e t = record { source = sound.source; fine = three.2; left_fine = sound.left_fine; sites = sound.sites } in
        let index_is : value later others index_e ≡ Ok index = ap (λ bs. value later others (expr_of bs (left_of k i))) (end.names ∙ ap in_tree (no_value_names k1 v1 e b quiet)) ∙ leaf.is in
        let once = quiet_side ns text ds spawns gives loop true b k1 v1 (site + calls_in i) t others later (extends_text k v w a b ext ∙ placed.text_names) (later_stands text start ds a b k v w s placed ext later leaf.keeps) place e (omega (arith, few)) quiet sound_e in
        subst (λ zs. EndsAs program f text true (IsElementLeft v index_e side start index) (IsElementCall v index_e side start index) rest others later (items_of ns t zs rest) (evaluate text others (deep.expr_of ds (site + calls_in i) e))) (sym (no_value_before k1 e quiet))
        (once_ends v index index_e side others start later rest leaf.keeps index_is once)
    after_quiet quiet a k v site s others start later rest placed sound (Err trap) leaf =
        let k1 = part_after k false i in
        let v1 = part_after v false i in
        let b = with_names k v i a in
        let t = after_part s k false i in
        let few = placed.few in
        let place = part_place false a k v i s placed.place (omega (arith, few)) in
        let end = value_place b k1 v1 e t place (omega (arith, few)) in
        let index_e = index_by false s k i e in
        let index_is : value later others index_e ≡ Err trap = ap (λ bs. value later others (expr_of bs (left_of k i))) (end.names ∙ ap in_tree (no_value_names k1 v1 e b quiet)) ∙ leaf.is in
        subst (λ zs. EndsAs program f text true (IsIndexLeft v index_e start) NoCall rest others later (items_of ns t zs rest) (Trapped trap)) (sym (no_value_before k1 e quiet))
        (EndsAs.Fails others later rest trap later (at_once program f text others later rest) (record { keeps = leaf.keeps; is = index_is }))

    pair_quiet : holds_nested e ≡ false → EndsPair false
    pair_quiet quiet a k v site s globals names rest placed sound =
        let k1 = part_after k false i in
        let v1 = part_after v false i in
        let b = with_names k v i a in
        let between = between_by false k v site i e s names rest in
        let After = AfterBy false k v site i e s names rest in
        let three = three_fine gives loop s (before k i) [] (value_before k1 e) sound.fine in
        let index_fine : expr_faults (in_tree b) (left_of k i) ≡ [] = ap (λ c. expr_faults (in_tree c) (left_of k i)) (sym (no_value_names k1 v1 e b quiet)) ∙ sound.index_fine in
        let sound_i : IsSound ns gives loop a k v site i s = record { source = sound.index_source; fine = three.0; left_fine = index_fine; sites = sound.index_sites } in
        subst (λ items. EndsAs program f text false After NoCall between globals names items (evaluate text globals (deep.expr_of ds site i))) (sym (items_three ns s (before k i) [] (value_before k1 e) rest))
        (told_ends program f text false (IsLeft v b (left_of k i) names) After NoCall NoCall between (λ others later outcome leaf. after_quiet quiet a k v site s others names later rest placed sound outcome leaf) (λ others later call none. none)
        (whole_i false tt a k v site s globals names between (less_placed text names ds a v (names_in i + 0 + value_names e) (names_in i) s (omega arith) placed) sound_i))

    pub pair_ends : (b : Bool) → holds_nested e ≡ b → EndsPair b
    pair_ends true h = pair_called
    pair_ends false h = pair_quiet h
