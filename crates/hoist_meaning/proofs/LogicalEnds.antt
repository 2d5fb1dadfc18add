-- The ends of `&&` and `||`. Where the right operand holds a call, a new name has the left one's truth, and a branch evaluates the right one
-- where it is needed.
use Rattle.hoist_meaning.proofs.Common.{ℕ, zero, suc, ◌≡◌, ◌+◌, ◌⊎◌, ⊎_elim, inl, inr, refl, sym, ap, subst, ◌∙◌, Bool, true, false, List, [], ◌∷◌, ◌++◌, arith, if◌then◌else◌, nat_eq, not, Ok, Err, row, width, with_word, flag, TrapKind, BinaryOperator, UnaryOperator, RawExprTree, RawLogicalAnd, RawLogicalOr, RawIf, ProgramTree, unary_value, binary_value, Value, value, on_one, on_both, truth, choice, Item, Binding, expr_faults, expr_of, Spot, inside, stmt_faults, both_none, same_number, LogicalAnd, LogicalOr, calls_in, used, declared_as, set_to, holds_call, one_if, names_in, left_of, is_true, is_false, in_block, decided, before, left_whole, AreSourceNames}
use Rattle.deep_mean.specs.Evaluation.{Around, LeftOfAnd, LeftOfOr, Decides, Done, of_value, and_then, truth_of, chosen, evaluate, filled}
use Rattle.deep_mean.specs.Naming as deep
use Rattle.hoist_meaning.proofs.KnownSpawn.{AreFine, both_fine, one_fine}
use Rattle.hoist_meaning.proofs.Bindings.{Agreement, New, in_tree}
use Rattle.hoist_meaning.proofs.Values.{then_and, then_or}
use Rattle.hoist_meaning.proofs.Items.{items_of, after, items_both}
use Rattle.hoist_meaning.proofs.Spots.{with_part, with_names, before_stands, declared_stands, in_scope}
use Rattle.hoist_meaning.proofs.Extends.{extends_text, extends_agrees, names_extend, part_then}
use Rattle.hoist_meaning.proofs.Ends.{Rows, NoCall, EndsAs, ends_on, outcome_ends, then_ends}
use Rattle.hoist_meaning.proofs.Premises.{in_branch, after_left, SitesStand, IsPlaced, IsSound, Keeps, IsLeft}
use Rattle.hoist_meaning.proofs.Settled.{keeps_on, write_keeps, written, less_placed, later_stands, placed_on, last_variable, used_value}
use Rattle.hoist_meaning.proofs.Parts.{named_fine, declares, declaring_stops, Evaluates}
use Rattle.hoist_meaning.proofs.PlainEnds.{quiet_value}
use Rattle.hoist_meaning.proofs.BranchEnds.{set_fine, branch_taken, branch_passed, branch_ends}

-- ---- truth as the tree computes it

zero_by : (n : ℕ) (b : Bool) → nat_eq (suc n) 0 ≡ b → b ≡ false
zero_by n true e = let wrong = same_number (suc n) 0 e in absurd (omega (arith, wrong))
zero_by n false e = refl

truth_word : (word : ℕ) → on_both (binary_value BinaryOperator.NotEqual) (Ok word) (Ok 0) ≡ Ok (truth_of word)
unfolding flag
truth_word zero = refl
truth_word (suc n) = ap (λ b. Ok (flag (not b))) (zero_by n (nat_eq (suc n) 0) refl)

truth_outcome : (names globals : Rows) (bs : List Binding) (left : RawExprTree) (outcome : Value) → value names globals (expr_of bs left) ≡ outcome → value names globals (expr_of bs (is_true left)) ≡ on_one truth_of outcome
truth_outcome names globals bs left (Ok word) e = ap (λ x. on_both (binary_value BinaryOperator.NotEqual) x (Ok 0)) e ∙ truth_word word
truth_outcome names globals bs left (Err trap) e = ap (λ x. on_both (binary_value BinaryOperator.NotEqual) x (Ok 0)) e

not_zero : (n : ℕ) → on_one (unary_value UnaryOperator.Not) (Ok (truth_of (suc n))) ≡ Ok 0
unfolding flag
not_zero n = refl

is_zero : on_one (unary_value UnaryOperator.Not) (Ok (truth_of zero)) ≡ Ok 1
unfolding flag
is_zero = refl

module _ (program : ProgramTree) (ns : List ℕ) (f : ℕ) (text : Rows) (ds : List Binding) (gives loop : Bool) (l r : RawExprTree) (whole_l : Evaluates program ns f text ds gives loop l) (whole_r : Evaluates program ns f text ds gives loop r) where
  module _ (strict : Bool) (a : Agreement) (k v site : ℕ) (s : Spot) (c : RawExprTree) (around : Around) where
    abbrev GoesWay : Type 0
    GoesWay =
        (others later : Rows) (word : ℕ) → row later (v + names_in l) ≡ truth_of word ∷ [] →
        ((value later others (expr_of (in_tree (New (k + names_in l) (v + names_in l) (with_names k v l a))) c) ≡ Ok 0) × (filled text others around word ≡ Done (truth_of word)))
        ⊎ ((value later others (expr_of (in_tree (New (k + names_in l) (v + names_in l) (with_names k v l a))) c) ≡ Ok 1)
        × (filled text others around word ≡ and_then (evaluate text others (deep.expr_of ds (site + calls_in l) r)) Decides (filled text others Decides)))

    by_way : (word : ℕ) (others start next : Rows) → Keeps v start next → row next (v + names_in l) ≡ truth_of word ∷ [] →
        ((value next others (expr_of (in_tree (New (k + names_in l) (v + names_in l) (with_names k v l a))) c) ≡ Ok 0) × (filled text others around word ≡ Done (truth_of word)))
        ⊎ ((value next others (expr_of (in_tree (New (k + names_in l) (v + names_in l) (with_names k v l a))) c) ≡ Ok 1)
        × (filled text others around word ≡ and_then (evaluate text others (deep.expr_of ds (site + calls_in l) r)) Decides (filled text others Decides))) →
        width next (v + names_in l) ≡ 1 → IsPlaced text next ds (New (k + names_in l) (v + names_in l) (with_names k v l a)) (v + names_in l + 1) (names_in r) (in_branch (after_left s k l)) →
        (after_left s k l).names ≡ in_tree (New (k + names_in l) (v + names_in l) (with_names k v l a)) →
        IsSound ns gives loop (New (k + names_in l) (v + names_in l) (with_names k v l a)) (k + names_in l + 1) (v + names_in l + 1) (site + calls_in l) r (in_branch (after_left s k l)) → (rest : List Item) →
        EndsAs program f text strict (IsLeft v (New (k + names_in l) (v + names_in l) (with_names k v l a)) (used (k + names_in l)) start) NoCall rest others next
        (items_of ns (after_left s k l) (RawIf c (in_block (before (k + names_in l + 1) r ++ set_to (k + names_in l) (is_true (left_of (k + names_in l + 1) r)) ∷ [])) ∷ []) rest) (filled text others around word)
    by_way word others start next kept holds way one placed same sound rest =
        let h = k + names_in l in
        let x = v + names_in l in
        let b = with_names k v l a in
        let t1 = after_left s k l in
        let block = before (h + 1) r ++ set_to h (is_true (left_of (h + 1) r)) ∷ [] in
        let items = items_of ns t1 (RawIf c (in_block block) ∷ []) rest in
        let Leaf = IsLeft v (New h x b) (used h) start in
        let Ends = EndsAs program f text strict Leaf NoCall rest others next items in
        let tested = ap (λ (bs : List Binding). value next others (expr_of bs c)) same in
        ⊎_elim
        (λ p. subst Ends (sym p.1)
        (EndsAs.Valued others next items (truth_of word) next (branch_passed program ns f text t1 c block others next rest (tested ∙ p.0))
        (record { keeps = kept; is = used_value (in_tree (New h x b)) h x (truth_of word) next others (last_variable h x b) holds })))
        (λ p. subst Ends (sym p.1)
        (ends_on program f text strict Leaf NoCall rest next items (branch_taken program ns f text t1 c block others next 0 rest (tested ∙ p.0))
        (branch_ends program ns f text ds gives loop r whole_r Decides truth_of is_true (λ left quiet. (quiet, tt)) truth_outcome (λ globals other. refl) strict
        b h x (h + 1) (x + 1) v (site + calls_in l) (in_branch t1) others start next rest (omega arith) (omega arith) (omega arith) one kept placed sound)))
        way

    called_ends : GoesWay → (globals names : Rows) (rest : List Item) → IsPlaced text names ds a v (names_in l + 1 + names_in r) s → AreSourceNames l × AreSourceNames r →
        AreFine gives loop s (before k l ++ decided (k + names_in l) (left_of k l) c (before (k + names_in l + 1) r) (left_of (k + names_in l + 1) r)) →
        SitesStand ns s k site l × SitesStand ns (in_branch (after_left s k l)) (k + names_in l + 1) (site + calls_in l) r →
        EndsAs program f text strict (IsLeft v (New (k + names_in l) (v + names_in l) (with_names k v l a)) (used (k + names_in l)) names) NoCall rest globals names
        (items_of ns s (before k l ++ decided (k + names_in l) (left_of k l) c (before (k + names_in l + 1) r) (left_of (k + names_in l + 1) r)) rest) (and_then (evaluate text globals (deep.expr_of ds site l)) around (filled text globals around))
    called_ends way globals names rest placed source fine sites =
        let h = k + names_in l in
        let x = v + names_in l in
        let b = with_names k v l a in
        let B = New h x b in
        let L = left_of k l in
        let R = left_of (h + 1) r in
        let t = after s (before k l) in
        let t1 = after_left s k l in
        let u = in_branch t1 in
        let block = before (h + 1) r ++ set_to h (is_true R) ∷ [] in
        let few = placed.few in
        let room = names_in l + 1 + names_in r in
        let place = before_stands a k v l s placed.place (omega (arith, few)) in
        let place1 = declared_stands b h x (is_true L) t place (omega (arith, few)) in
        let place2 = in_scope B (x + 1) (inside t1) (in_scope B (x + 1) t1 place1) in
        let ext = part_then true k v (x + 1) l a (omega arith) (names_extend k v l a) in
        let ss = decided h L c (before (h + 1) r) R in
        let fines = both_fine gives loop s (before k l) ss fine in
        let inner = both_fine gives loop t (declared_as h (is_true L) ∷ []) (RawIf c (in_block block) ∷ []) fines.1 in
        let left_fine = both_none (expr_faults (in_tree b) L) [] (named_fine gives loop b x t place h (is_true L) (left_whole k l, tt) inner.0) in
        let branch_fine = both_none (expr_faults t1.names c) (stmt_faults gives loop (inside t1) (in_block block)) (one_fine gives loop t1 (RawIf c (in_block block)) inner.1) in
        let block_fine = both_fine gives loop u (before (h + 1) r) (set_to h (is_true R) ∷ []) branch_fine.1 in
        let place3 = before_stands B (h + 1) (x + 1) r u place2 (omega (arith, few)) in
        let d = with_names (h + 1) (x + 1) r B in
        let right_fine = both_none (expr_faults (in_tree d) R) [] (set_fine gives loop d (after u (before (h + 1) r)) h (is_true R) place3.names (left_whole (h + 1) r, tt) block_fine.1) in
        let sound_l : IsSound ns gives loop a k v site l s = record { source = source.0; fine = fines.0; left_fine = left_fine.0; sites = sites.0 } in
        let sound_r : IsSound ns gives loop B (h + 1) (x + 1) (site + calls_in l) r u = record { source = source.1; fine = block_fine.0; left_fine = right_fine.0; sites = sites.1 } in
        let Leaf = IsLeft v B (used h) names in
        let between = items_of ns t ss rest in
        let choice_items = items_of ns t1 (RawIf c (in_block block) ∷ []) rest in
        subst (λ items. EndsAs program f text strict Leaf NoCall rest globals names items (and_then (evaluate text globals (deep.expr_of ds site l)) around (filled text globals around))) (sym (items_both ns s (before k l) ss rest))
        (then_ends program f text strict Leaf NoCall rest (IsLeft v b L names) between around
        (λ others later word leaf.
        let next = with_word later x 0 (truth_of word) in
        let one = leaf.keeps.widths x ∙ placed.wide x (omega arith) (omega arith) in
        let holds = written later x (truth_of word) one in
        let kept = keeps_on v x names later next (omega arith) leaf.keeps (write_keeps x x (truth_of word) later (omega arith)) in
        let comes = declares program ns f text b h x (truth_of word) (is_true L) t others later choice_items place (omega (arith, few)) (left_whole k l, tt) (truth_outcome later others (in_tree b) L (Ok word) leaf.is) in
        ends_on program f text strict Leaf NoCall rest later between comes
        (by_way word others names next kept holds (way others next word holds) (kept.widths x ∙ placed.wide x (omega arith) (omega arith))
        (placed_on text names ds a B k v room (x + 1) (names_in r) s u next placed ext place2 kept (omega arith) (omega arith)) place1.names sound_r rest))
        (λ others later trap leaf.
        EndsAs.Stopped others later between trap (declaring_stops program ns f text b h x trap (is_true L) t others later choice_items place (omega (arith, few)) (left_whole k l, tt) (truth_outcome later others (in_tree b) L (Err trap) leaf.is)))
        (whole_l false tt a k v site s globals names between (less_placed text names ds a v room (names_in l) s (omega arith) placed) sound_l))

  -- where the right operand holds no call, it is evaluated with the left one's value, at once
  module _ (strict : Bool) (a : Agreement) (k v site : ℕ) (s : Spot) (joined : RawExprTree) (around : Around) (combine : Value → Value → Value)
      (joins : (names globals : Rows) → value names globals (expr_of (in_tree (with_names k v l a)) joined) ≡ combine (value names globals (expr_of (in_tree (with_names k v l a)) (left_of k l))) (value names globals (expr_of (in_tree (with_names k v l a)) r)))
      (traps : (trap : TrapKind) (right : Value) → combine (Err trap) right ≡ Err trap)
      (fills : (others : Rows) (word : ℕ) (right : Value) → evaluate text others (deep.expr_of ds (site + calls_in l) r) ≡ of_value right → filled text others around word ≡ of_value (combine (Ok word) right)) where
    pub quiet_ends : holds_call r ≡ false → (globals names : Rows) (rest : List Item) → IsPlaced text names ds a v (names_in l) s → AreSourceNames r → expr_faults (in_tree (with_names k v l a)) r ≡ [] → IsSound ns gives loop a k v site l s →
        EndsAs program f text strict (IsLeft v (with_names k v l a) joined names) NoCall rest globals names (items_of ns s (before k l) rest) (and_then (evaluate text globals (deep.expr_of ds site l)) around (filled text globals around))
    quiet_ends quiet globals names rest placed source right_fine sound =
        let b = with_names k v l a in
        let ext = names_extend k v l a in
        let w = v + names_in l in
        let Leaf = IsLeft v b joined names in
        then_ends program f text strict Leaf NoCall rest (IsLeft v b (left_of k l) names) rest around
        (λ others later word leaf.
        let right = value later others (expr_of (in_tree b) r) in
        let is = quiet_value text later others ds b (site + calls_in l) r (extends_agrees k v w a b ext placed.place.agrees) (extends_text k v w a b ext ∙ placed.text_names) (later_stands text names ds a b k v w s placed ext later leaf.keeps) source quiet right_fine in
        subst (λ e. EndsAs program f text strict Leaf NoCall rest others later rest e) (sym (fills others word right is))
        (outcome_ends program f text strict Leaf NoCall rest others later (combine (Ok word) right) (record { keeps = leaf.keeps; is = joins later others ∙ ap (λ x. combine x right) leaf.is })))
        (λ others later trap leaf.
        let right = value later others (expr_of (in_tree b) r) in
        outcome_ends program f text strict Leaf NoCall rest others later (Err trap) (record { keeps = leaf.keeps; is = joins later others ∙ ap (λ x. combine x right) leaf.is ∙ traps trap right }))
        (whole_l false tt a k v site s globals names rest placed sound)

  -- ---- `&&`

  and_way : (a : Agreement) (k v site : ℕ) (s : Spot) → GoesWay false a k v site s (used (k + names_in l)) (LeftOfAnd (deep.expr_of ds (site + calls_in l) r))
  and_way a k v site s others later zero holds = inl (used_value (in_tree (New (k + names_in l) (v + names_in l) (with_names k v l a))) (k + names_in l) (v + names_in l) 0 later others (last_variable (k + names_in l) (v + names_in l) (with_names k v l a)) holds, refl)
  and_way a k v site s others later (suc n) holds = inr (used_value (in_tree (New (k + names_in l) (v + names_in l) (with_names k v l a))) (k + names_in l) (v + names_in l) 1 later others (last_variable (k + names_in l) (v + names_in l) (with_names k v l a)) holds, refl)

  and_by : (b : Bool) → holds_call r ≡ b → (strict : Bool) (a : Agreement) (k v site : ℕ) (s : Spot) (globals names : Rows) (rest : List Item) → IsPlaced text names ds a v (names_in l + one_if b + names_in r) s → AreSourceNames l × AreSourceNames r →
      AreFine gives loop s (before k l ++ (if b then decided (k + names_in l) (left_of k l) (used (k + names_in l)) (before (k + names_in l + 1) r) (left_of (k + names_in l + 1) r) else [])) →
      expr_faults (in_tree (with_part b (k + names_in l) (v + names_in l) (with_names k v l a))) (if b then used (k + names_in l) else RawLogicalAnd (left_of k l) r) ≡ [] →
      SitesStand ns s k site l × SitesStand ns (in_branch (after_left s k l)) (k + names_in l + 1) (site + calls_in l) r →
      EndsAs program f text strict (IsLeft v (with_part b (k + names_in l) (v + names_in l) (with_names k v l a)) (if b then used (k + names_in l) else RawLogicalAnd (left_of k l) r) names) NoCall rest globals names
      (items_of ns s (before k l ++ (if b then decided (k + names_in l) (left_of k l) (used (k + names_in l)) (before (k + names_in l + 1) r) (left_of (k + names_in l + 1) r) else [])) rest)
      (evaluate text globals (LogicalAnd (deep.expr_of ds site l) (deep.expr_of ds (site + calls_in l) r)))
  and_by true e strict a k v site s globals names rest placed source fine left_fine sites =
      called_ends strict a k v site s (used (k + names_in l)) (LeftOfAnd (deep.expr_of ds (site + calls_in l) r)) (and_way a k v site s) globals names rest placed source fine sites
  and_by false e strict a k v site s globals names rest placed source fine left_fine sites =
      let right = deep.expr_of ds (site + calls_in l) r in
      let b = with_names k v l a in
      let fines = both_fine gives loop s (before k l) [] fine in
      let leaves = both_none (expr_faults (in_tree b) (left_of k l)) (expr_faults (in_tree b) r) left_fine in
      subst (λ items. EndsAs program f text strict (IsLeft v b (RawLogicalAnd (left_of k l) r) names) NoCall rest globals names items (evaluate text globals (LogicalAnd (deep.expr_of ds site l) right))) (sym (items_both ns s (before k l) [] rest))
      (quiet_ends strict a k v site s (RawLogicalAnd (left_of k l) r) (LeftOfAnd right) (λ x y. choice x (truth y) (Ok 0)) (λ later others. refl) (λ trap y. refl)
      (λ others word y e. ap (λ ev. chosen word (and_then ev Decides (λ z. Done (truth_of z))) (Done 0)) e ∙ then_and (Ok word) y (LeftOfAnd right)) e globals names rest
      (less_placed text names ds a v (names_in l + 0 + names_in r) (names_in l) s (omega arith) placed) source.1 leaves.1 (record { source = source.0; fine = fines.0; left_fine = leaves.0; sites = sites.0 }))

  pub and_ends : Evaluates program ns f text ds gives loop (RawLogicalAnd l r)
  and_ends strict may a k v site s globals names rest placed sound = and_by (holds_call r) refl strict a k v site s globals names rest placed sound.source sound.fine sound.left_fine sound.sites

  -- ---- `||`

  or_way : (a : Agreement) (k v site : ℕ) (s : Spot) → GoesWay false a k v site s (is_false (used (k + names_in l))) (LeftOfOr (deep.expr_of ds (site + calls_in l) r))
  or_way a k v site s others later zero holds =
      inr (ap (on_one (unary_value UnaryOperator.Not)) (used_value (in_tree (New (k + names_in l) (v + names_in l) (with_names k v l a))) (k + names_in l) (v + names_in l) 0 later others (last_variable (k + names_in l) (v + names_in l) (with_names k v l a)) holds) ∙ is_zero, refl)
  or_way a k v site s others later (suc n) holds =
      inl (ap (on_one (unary_value UnaryOperator.Not)) (used_value (in_tree (New (k + names_in l) (v + names_in l) (with_names k v l a))) (k + names_in l) (v + names_in l) 1 later others (last_variable (k + names_in l) (v + names_in l) (with_names k v l a)) holds) ∙ not_zero n, refl)

  or_by : (b : Bool) → holds_call r ≡ b → (strict : Bool) (a : Agreement) (k v site : ℕ) (s : Spot) (globals names : Rows) (rest : List Item) → IsPlaced text names ds a v (names_in l + one_if b + names_in r) s → AreSourceNames l × AreSourceNames r →
      AreFine gives loop s (before k l ++ (if b then decided (k + names_in l) (left_of k l) (is_false (used (k + names_in l))) (before (k + names_in l + 1) r) (left_of (k + names_in l + 1) r) else [])) →
      expr_faults (in_tree (with_part b (k + names_in l) (v + names_in l) (with_names k v l a))) (if b then used (k + names_in l) else RawLogicalOr (left_of k l) r) ≡ [] →
      SitesStand ns s k site l × SitesStand ns (in_branch (after_left s k l)) (k + names_in l + 1) (site + calls_in l) r →
      EndsAs program f text strict (IsLeft v (with_part b (k + names_in l) (v + names_in l) (with_names k v l a)) (if b then used (k + names_in l) else RawLogicalOr (left_of k l) r) names) NoCall rest globals names
      (items_of ns s (before k l ++ (if b then decided (k + names_in l) (left_of k l) (is_false (used (k + names_in l))) (before (k + names_in l + 1) r) (left_of (k + names_in l + 1) r) else [])) rest)
      (evaluate text globals (LogicalOr (deep.expr_of ds site l) (deep.expr_of ds (site + calls_in l) r)))
  or_by true e strict a k v site s globals names rest placed source fine left_fine sites =
      called_ends strict a k v site s (is_false (used (k + names_in l))) (LeftOfOr (deep.expr_of ds (site + calls_in l) r)) (or_way a k v site s) globals names rest placed source fine sites
  or_by false e strict a k v site s globals names rest placed source fine left_fine sites =
      let right = deep.expr_of ds (site + calls_in l) r in
      let b = with_names k v l a in
      let fines = both_fine gives loop s (before k l) [] fine in
      let leaves = both_none (expr_faults (in_tree b) (left_of k l)) (expr_faults (in_tree b) r) left_fine in
      subst (λ items. EndsAs program f text strict (IsLeft v b (RawLogicalOr (left_of k l) r) names) NoCall rest globals names items (evaluate text globals (LogicalOr (deep.expr_of ds site l) right))) (sym (items_both ns s (before k l) [] rest))
      (quiet_ends strict a k v site s (RawLogicalOr (left_of k l) r) (LeftOfOr right) (λ x y. choice x (Ok 1) (truth y)) (λ later others. refl) (λ trap y. refl)
      (λ others word y e. ap (λ ev. chosen word (Done 1) (and_then ev Decides (λ z. Done (truth_of z)))) e ∙ then_or (Ok word) y (LeftOfOr right)) e globals names rest
      (less_placed text names ds a v (names_in l + 0 + names_in r) (names_in l) s (omega arith) placed) source.1 leaves.1 (record { source = source.0; fine = fines.0; left_fine = leaves.0; sites = sites.0 }))

  pub or_ends : Evaluates program ns f text ds gives loop (RawLogicalOr l r)
  or_ends strict may a k v site s globals names rest placed sound = or_by (holds_call r) refl strict a k v site s globals names rest placed sound.source sound.fine sound.left_fine sound.sites
