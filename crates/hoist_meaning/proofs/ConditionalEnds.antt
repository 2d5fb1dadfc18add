-- The ends of `?:`. Where one of its parts holds a call, the part that is chosen is evaluated in a branch, and a new name has its value.
use Rattle.hoist_meaning.proofs.Common.{ℕ, zero, suc, ◌≡◌, ◌+◌, refl, sym, ap, subst, ◌∙◌, Bool, true, false, ◌||◌, List, [], ◌∷◌, ◌++◌, arith, if◌then◌else◌, Ok, Err, width, with_zeros, RawExprTree, RawConditional, RawStmtTree, RawIfElse, ProgramTree, Value, value, on_one, choice, Item, Binding, expr_faults, expr_of, Spot, inside, stmt_faults, both_none, Conditional, calls_in, used, declared, set_to, holds_call, one_if, names_in, left_of, in_block, before, left_whole, AreSourceNames, or_parts}
use Rattle.deep_mean.specs.Evaluation.{ConditionOf, Chosen, Done, of_value, and_then, chosen, evaluate, filled}
use Rattle.deep_mean.specs.Naming as deep
use Rattle.hoist_meaning.proofs.KnownSpawn.{AreFine, both_fine, one_fine}
use Rattle.hoist_meaning.proofs.Bindings.{Agreement, New, in_tree}
use Rattle.hoist_meaning.proofs.Values.{then_choice}
use Rattle.hoist_meaning.proofs.Items.{items_of, after, items_both}
use Rattle.hoist_meaning.proofs.Spots.{with_part, with_names, before_stands, zeroed_stands, in_scope, chosen_stands}
use Rattle.hoist_meaning.proofs.Extends.{extends_text, extends_agrees, extends_below, extends_from, names_extend, part_then}
use Rattle.hoist_meaning.proofs.Ends.{Rows, NoCall, EndsAs, ends_on, outcome_ends, then_ends, stops_on}
use Rattle.hoist_meaning.proofs.Premises.{in_branch, after_branch, after_condition, SitesStand, IsPlaced, IsSound, Keeps, IsLeft}
use Rattle.hoist_meaning.proofs.Settled.{keeps_on, zeros_keep, less_placed, later_stands, placed_on}
use Rattle.hoist_meaning.proofs.Parts.{Evaluates, zeroes}
use Rattle.hoist_meaning.proofs.PlainEnds.{quiet_value}
use Rattle.hoist_meaning.proofs.Unmoved.{left_apart, faults_skip, value_unmoved}
use Rattle.hoist_meaning.proofs.BranchEnds.{set_fine, first_taken, second_taken, choice_stopped, branch_ends}

itself : (names globals : Rows) (bs : List Binding) (left : RawExprTree) (outcome : Value) → value names globals (expr_of bs left) ≡ outcome → value names globals (expr_of bs left) ≡ on_one (λ word. word) outcome
itself names globals bs left (Ok word) e = e
itself names globals bs left (Err trap) e = e

module _ (program : ProgramTree) (ns : List ℕ) (f : ℕ) (text : Rows) (ds : List Binding) (gives loop : Bool) (c x y : RawExprTree)
    (whole_c : Evaluates program ns f text ds gives loop c) (whole_x : Evaluates program ns f text ds gives loop x) (whole_y : Evaluates program ns f text ds gives loop y) where
  abbrev block : ℕ → RawExprTree → ℕ → List RawStmtTree
  block k e h = before k e ++ set_to h (left_of k e) ∷ []

  abbrev branches : ℕ → List RawStmtTree
  branches k = declared (k + names_in c) ∷ RawIfElse (left_of k c) (in_block (block (k + names_in c + 1) x (k + names_in c))) (in_block (block (k + names_in c + 1 + names_in x) y (k + names_in c))) ∷ []

  -- the parts of the text and of the tree at a place
  module _ (strict : Bool) (a : Agreement) (k v site : ℕ) (s : Spot) where
    -- the branch of a part, at its place, where the new name is declared
    chosen_ends : (word : ℕ) (others start next : Rows) (rest : List Item) → Keeps v start next → width next (v + names_in c) ≡ 1 →
        value next others (expr_of (after_condition s k c).names (left_of k c)) ≡ Ok word →
        IsPlaced text next ds (New (k + names_in c) (v + names_in c) (with_names k v c a)) (v + names_in c + 1) (names_in x) (in_branch (after_condition s k c)) →
        IsSound ns gives loop (New (k + names_in c) (v + names_in c) (with_names k v c a)) (k + names_in c + 1) (v + names_in c + 1) (site + calls_in c) x (in_branch (after_condition s k c)) →
        IsPlaced text next ds (New (k + names_in c) (v + names_in c) (with_names k v c a)) (v + names_in c + 1 + names_in x) (names_in y) (in_branch (after_branch (after_condition s k c) (block (k + names_in c + 1) x (k + names_in c)))) →
        IsSound ns gives loop (New (k + names_in c) (v + names_in c) (with_names k v c a)) (k + names_in c + 1 + names_in x) (v + names_in c + 1 + names_in x) (site + calls_in c + calls_in x) y
        (in_branch (after_branch (after_condition s k c) (block (k + names_in c + 1) x (k + names_in c)))) →
        EndsAs program f text strict (IsLeft v (New (k + names_in c) (v + names_in c) (with_names k v c a)) (used (k + names_in c)) start) NoCall rest others next
        (items_of ns (after_condition s k c) (RawIfElse (left_of k c) (in_block (block (k + names_in c + 1) x (k + names_in c))) (in_block (block (k + names_in c + 1 + names_in x) y (k + names_in c))) ∷ []) rest)
        (filled text others (ConditionOf (deep.expr_of ds (site + calls_in c) x) (deep.expr_of ds (site + calls_in c + calls_in x) y)) word)
    chosen_ends zero others start next rest kept one is placed_x sound_x placed_y sound_y =
        let h = k + names_in c in
        let z = v + names_in c in
        let b = with_names k v c a in
        let t1 = after_condition s k c in
        let first = block (h + 1) x h in
        let second = block (h + 1 + names_in x) y h in
        let items = items_of ns t1 (RawIfElse (left_of k c) (in_block first) (in_block second) ∷ []) rest in
        let Leaf = IsLeft v (New h z b) (used h) start in
        ends_on program f text strict Leaf NoCall rest next items (second_taken program ns f text t1 (left_of k c) first second others next rest is)
        (branch_ends program ns f text ds gives loop y whole_y Chosen (λ word. word) (λ left. left) (λ left quiet. quiet) itself (λ globals other. refl) strict b h z (h + 1 + names_in x) (z + 1 + names_in x) v (site + calls_in c + calls_in x)
        (in_branch (after_branch t1 first)) others start next rest (omega arith) (omega arith) (omega arith) one kept placed_y sound_y)
    chosen_ends (suc n) others start next rest kept one is placed_x sound_x placed_y sound_y =
        let h = k + names_in c in
        let z = v + names_in c in
        let b = with_names k v c a in
        let t1 = after_condition s k c in
        let first = block (h + 1) x h in
        let second = block (h + 1 + names_in x) y h in
        let items = items_of ns t1 (RawIfElse (left_of k c) (in_block first) (in_block second) ∷ []) rest in
        let Leaf = IsLeft v (New h z b) (used h) start in
        ends_on program f text strict Leaf NoCall rest next items (first_taken program ns f text t1 (left_of k c) first second others next n rest is)
        (branch_ends program ns f text ds gives loop x whole_x Chosen (λ word. word) (λ left. left) (λ left quiet. quiet) itself (λ globals other. refl) strict b h z (h + 1) (z + 1) v (site + calls_in c) (in_branch t1) others start next rest
        (omega arith) (omega arith) (omega arith) one kept placed_x sound_x)

    called_ends : (globals names : Rows) (rest : List Item) → IsPlaced text names ds a v (names_in c + 1 + names_in x + names_in y) s → AreSourceNames c × AreSourceNames x × AreSourceNames y → AreFine gives loop s (before k c ++ branches k) →
        SitesStand ns s k site c × SitesStand ns (in_branch (after_condition s k c)) (k + names_in c + 1) (site + calls_in c) x
        × SitesStand ns (in_branch (after_branch (after_condition s k c) (block (k + names_in c + 1) x (k + names_in c)))) (k + names_in c + 1 + names_in x) (site + calls_in c + calls_in x) y →
        EndsAs program f text strict (IsLeft v (New (k + names_in c) (v + names_in c) (with_names k v c a)) (used (k + names_in c)) names) NoCall rest globals names (items_of ns s (before k c ++ branches k) rest)
        (evaluate text globals (Conditional (deep.expr_of ds site c) (deep.expr_of ds (site + calls_in c) x) (deep.expr_of ds (site + calls_in c + calls_in x) y)))
    called_ends globals names rest placed source fine sites =
        let h = k + names_in c in
        let z = v + names_in c in
        let k2 = h + 1 + names_in x in
        let z2 = z + 1 + names_in x in
        let b = with_names k v c a in
        let B = New h z b in
        let C = left_of k c in
        let t = after s (before k c) in
        let t1 = after_condition s k c in
        let u = in_branch t1 in
        let first = block (h + 1) x h in
        let second = block k2 y h in
        let middle = after_branch t1 first in
        let w = in_branch middle in
        let few = placed.few in
        let room = names_in c + 1 + names_in x + names_in y in
        let place = before_stands a k v c s placed.place (omega (arith, few)) in
        let place1 = zeroed_stands b h z t place (omega (arith, few)) in
        let place2 = in_scope B (z + 1) (inside t1) (in_scope B (z + 1) t1 place1) in
        let place3 = before_stands B (h + 1) (z + 1) x u place2 (omega (arith, few)) in
        let place4 = chosen_stands B (z + 1) z2 h C (left_of (h + 1) x) t1 (before (h + 1) x) place1 place3.count in
        let place5 = in_scope B z2 (inside middle) (in_scope B z2 middle place4) in
        let place6 = before_stands B k2 z2 y w place5 (omega (arith, few)) in
        let ext0 = names_extend k v c a in
        let ext = part_then true k v (z + 1) c a (omega arith) ext0 in
        let ext2 = extends_from k v k v (z + 1) z2 a B (omega arith) (omega arith) (omega arith) ext in
        let fines = both_fine gives loop s (before k c) (branches k) fine in
        let choice_fine = both_fine gives loop t (declared h ∷ []) (RawIfElse C (in_block first) (in_block second) ∷ []) fines.1 in
        let both = one_fine gives loop t1 (RawIfElse C (in_block first) (in_block second)) choice_fine.1 in
        let parts = both_none (expr_faults t1.names C) (stmt_faults gives loop (inside t1) (in_block first) ++ stmt_faults gives loop (inside middle) (in_block second)) both in
        let blocks = both_none (stmt_faults gives loop (inside t1) (in_block first)) (stmt_faults gives loop (inside middle) (in_block second)) parts.1 in
        let fine_x = both_fine gives loop u (before (h + 1) x) (set_to h (left_of (h + 1) x) ∷ []) blocks.0 in
        let fine_y = both_fine gives loop w (before k2 y) (set_to h (left_of k2 y) ∷ []) blocks.1 in
        let left_x = set_fine gives loop (with_names (h + 1) (z + 1) x B) (after u (before (h + 1) x)) h (left_of (h + 1) x) place3.names (left_whole (h + 1) x) fine_x.1 in
        let left_y = set_fine gives loop (with_names k2 z2 y B) (after w (before k2 y)) h (left_of k2 y) place6.names (left_whole k2 y) fine_y.1 in
        let apart = left_apart h k c (omega arith) source.0 in
        let fine_c : expr_faults (in_tree b) C ≡ [] = sym (faults_skip h z b C apart) ∙ ap (λ bs. expr_faults bs C) (sym place1.names) ∙ parts.0 in
        let sound_c : IsSound ns gives loop a k v site c s = record { source = source.0; fine = fines.0; left_fine = fine_c; sites = sites.0 } in
        let sound_x : IsSound ns gives loop B (h + 1) (z + 1) (site + calls_in c) x u = record { source = source.1; fine = fine_x.0; left_fine = left_x; sites = sites.1 } in
        let sound_y : IsSound ns gives loop B k2 z2 (site + calls_in c + calls_in x) y w = record { source = source.2; fine = fine_y.0; left_fine = left_y; sites = sites.2 } in
        let Leaf = IsLeft v B (used h) names in
        let between = items_of ns t (branches k) rest in
        let around = ConditionOf (deep.expr_of ds (site + calls_in c) x) (deep.expr_of ds (site + calls_in c + calls_in x) y) in
        let choice_items = items_of ns t1 (RawIfElse C (in_block first) (in_block second) ∷ []) rest in
        let below = extends_below k v z a b (omega arith) ext0 placed.below in
        let agrees = place.agrees in
        let unmoved : (others later : Rows) (outcome : Value) → value later others (expr_of (in_tree b) C) ≡ outcome → value (with_zeros later z) others (expr_of t1.names C) ≡ outcome = λ others later outcome e.
        ap (λ bs. value (with_zeros later z) others (expr_of bs C)) place1.names ∙ value_unmoved z later (with_zeros later z) others (zeros_keep z z later (omega arith)).words h z b below agrees C apart fine_c ∙ e in
        subst (λ items. EndsAs program f text strict Leaf NoCall rest globals names items (and_then (evaluate text globals (deep.expr_of ds site c)) around (filled text globals around))) (sym (items_both ns s (before k c) (branches k) rest))
        (then_ends program f text strict Leaf NoCall rest (IsLeft v b C names) between around
        (λ others later word leaf.
        let next = with_zeros later z in
        let kept = keeps_on v z names later next (omega arith) leaf.keeps (zeros_keep z z later (omega arith)) in
        ends_on program f text strict Leaf NoCall rest later between (zeroes program ns f text b h z t others later choice_items place (omega (arith, few)))
        (chosen_ends word others names next rest kept (kept.widths z ∙ placed.wide z (omega arith) (omega arith)) (unmoved others later (Ok word) leaf.is)
        (placed_on text names ds a B k v room (z + 1) (names_in x) s u next placed ext place2 kept (omega arith) (omega arith)) sound_x
        (placed_on text names ds a B k v room z2 (names_in y) s w next placed ext2 place5 kept (omega arith) (omega arith)) sound_y))
        (λ others later trap leaf.
        EndsAs.Stopped others later between trap
        (stops_on program f text others later (with_zeros later z) between choice_items trap (zeroes program ns f text b h z t others later choice_items place (omega (arith, few)))
        (choice_stopped program ns f text t1 C first second others (with_zeros later z) trap rest (unmoved others later (Err trap) leaf.is))))
        (whole_c false tt a k v site s globals names between (less_placed text names ds a v room (names_in c) s (omega arith) placed) sound_c))

    quiet_ends : holds_call x ≡ false → holds_call y ≡ false → (globals names : Rows) (rest : List Item) → IsPlaced text names ds a v (names_in c) s → AreSourceNames x → AreSourceNames y →
        expr_faults (in_tree (with_names k v c a)) x ≡ [] → expr_faults (in_tree (with_names k v c a)) y ≡ [] → IsSound ns gives loop a k v site c s →
        EndsAs program f text strict (IsLeft v (with_names k v c a) (RawConditional (left_of k c) x y) names) NoCall rest globals names (items_of ns s (before k c) rest)
        (evaluate text globals (Conditional (deep.expr_of ds site c) (deep.expr_of ds (site + calls_in c) x) (deep.expr_of ds (site + calls_in c + calls_in x) y)))
    quiet_ends quiet_x quiet_y globals names rest placed source_x source_y fine_x fine_y sound =
        let b = with_names k v c a in
        let ext = names_extend k v c a in
        let w = v + names_in c in
        let dx = deep.expr_of ds (site + calls_in c) x in
        let dy = deep.expr_of ds (site + calls_in c + calls_in x) y in
        let Leaf = IsLeft v b (RawConditional (left_of k c) x y) names in
        let agrees = extends_agrees k v w a b ext placed.place.agrees in
        let same = extends_text k v w a b ext ∙ placed.text_names in
        then_ends program f text strict Leaf NoCall rest (IsLeft v b (left_of k c) names) rest (ConditionOf dx dy)
        (λ others later word leaf.
        let vx = value later others (expr_of (in_tree b) x) in
        let vy = value later others (expr_of (in_tree b) y) in
        let stand = later_stands text names ds a b k v w s placed ext later leaf.keeps in
        let ex = quiet_value text later others ds b (site + calls_in c) x agrees same stand source_x quiet_x fine_x in
        let ey = quiet_value text later others ds b (site + calls_in c + calls_in x) y agrees same stand source_y quiet_y fine_y in
        let is : filled text others (ConditionOf dx dy) word ≡ of_value (choice (Ok word) vx vy) = (λ i. chosen word (and_then (ex i) Chosen Done) (and_then (ey i) Chosen Done)) ∙ then_choice (Ok word) vx vy (ConditionOf dx dy) in
        subst (λ e. EndsAs program f text strict Leaf NoCall rest others later rest e) (sym is)
        (outcome_ends program f text strict Leaf NoCall rest others later (choice (Ok word) vx vy) (record { keeps = leaf.keeps; is = ap (λ z. choice z vx vy) leaf.is })))
        (λ others later trap leaf.
        outcome_ends program f text strict Leaf NoCall rest others later (Err trap)
        (record { keeps = leaf.keeps; is = ap (λ z. choice z (value later others (expr_of (in_tree b) x)) (value later others (expr_of (in_tree b) y))) leaf.is }))
        (whole_c false tt a k v site s globals names rest placed sound)

  conditional_by : (b : Bool) → (holds_call x || holds_call y) ≡ b → (strict : Bool) (a : Agreement) (k v site : ℕ) (s : Spot) (globals names : Rows) (rest : List Item) → IsPlaced text names ds a v (names_in c + one_if b + names_in x + names_in y) s →
      AreSourceNames c × AreSourceNames x × AreSourceNames y → AreFine gives loop s (before k c ++ (if b then branches k else [])) →
      expr_faults (in_tree (with_part b (k + names_in c) (v + names_in c) (with_names k v c a))) (if b then used (k + names_in c) else RawConditional (left_of k c) x y) ≡ [] →
      SitesStand ns s k site c × SitesStand ns (in_branch (after_condition s k c)) (k + names_in c + 1) (site + calls_in c) x
      × SitesStand ns (in_branch (after_branch (after_condition s k c) (block (k + names_in c + 1) x (k + names_in c)))) (k + names_in c + 1 + names_in x) (site + calls_in c + calls_in x) y →
      EndsAs program f text strict (IsLeft v (with_part b (k + names_in c) (v + names_in c) (with_names k v c a)) (if b then used (k + names_in c) else RawConditional (left_of k c) x y) names) NoCall rest globals names
      (items_of ns s (before k c ++ (if b then branches k else [])) rest)
      (evaluate text globals (Conditional (deep.expr_of ds site c) (deep.expr_of ds (site + calls_in c) x) (deep.expr_of ds (site + calls_in c + calls_in x) y)))
  conditional_by true e strict a k v site s globals names rest placed source fine left_fine sites = called_ends strict a k v site s globals names rest placed source fine sites
  conditional_by false e strict a k v site s globals names rest placed source fine left_fine sites =
      let b = with_names k v c a in
      let C = left_of k c in
      let fines = both_fine gives loop s (before k c) [] fine in
      let quiets = or_parts (holds_call x) (holds_call y) e in
      let two = both_none (expr_faults (in_tree b) C ++ expr_faults (in_tree b) x) (expr_faults (in_tree b) y) left_fine in
      let one = both_none (expr_faults (in_tree b) C) (expr_faults (in_tree b) x) two.0 in
      subst (λ items. EndsAs program f text strict (IsLeft v b (RawConditional C x y) names) NoCall rest globals names items (evaluate text globals (Conditional (deep.expr_of ds site c) (deep.expr_of ds (site + calls_in c) x) (deep.expr_of ds (site + calls_in c + calls_in x) y))))
      (sym (items_both ns s (before k c) [] rest))
      (quiet_ends strict a k v site s quiets.0 quiets.1 globals names rest (less_placed text names ds a v (names_in c + 0 + names_in x + names_in y) (names_in c) s (omega arith) placed) source.1 source.2 one.1 two.1
      (record { source = source.0; fine = fines.0; left_fine = one.0; sites = sites.0 }))

  pub conditional_ends : Evaluates program ns f text ds gives loop (RawConditional c x y)
  conditional_ends strict may a k v site s globals names rest placed sound = conditional_by (holds_call x || holds_call y) refl strict a k v site s globals names rest placed sound.source sound.fine sound.left_fine sound.sites
