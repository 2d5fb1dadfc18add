-- The ends of an operator with two operands. Where the right one holds a call, the left one is done by then.
use Rattle.hoist_meaning.proofs.Common.{ℕ, ◌≡◌, ◌+◌, ◌≤◌, refl, sym, ap, subst, ◌∙◌, Bool, true, false, List, [], ◌++◌, arith, Ok, Err, BinaryOperator, RawExprTree, RawBinary, ProgramTree, binary_value, Value, value, on_both, Item, Binding, expr_faults, expr_of, Spot, both_none, Binary, calls_in, holds_call, is_named, one_if, names_in, part_after, part_or, part_named, left_of, before, no_left, no_before, AreSourceNames}
use Rattle.deep_mean.specs.Evaluation.{LeftOf, RightOf, Done, of_value, and_then, evaluate, filled}
use Rattle.deep_mean.specs.Naming as deep
use Rattle.hoist_meaning.proofs.KnownSpawn.{AreFine}
use Rattle.hoist_meaning.proofs.Bindings.{Agreement, in_tree}
use Rattle.hoist_meaning.proofs.Items.{items_of, after, items_three}
use Rattle.hoist_meaning.proofs.Spots.{with_part, with_names, before_stands}
use Rattle.hoist_meaning.proofs.Extends.{extends_text, extends_agrees, names_extend, no_more_names}
use Rattle.hoist_meaning.proofs.Ends.{Rows, NoCall, EndsAs, outcome_ends, then_ends}
use Rattle.hoist_meaning.proofs.Premises.{after_part, SitesStand, IsPlaced, IsSound, Keeps, IsLeft}
use Rattle.hoist_meaning.proofs.Settled.{keeps_on, less_placed, later_stands, placed_on, IsSettled, settled_value, settled_on}
use Rattle.hoist_meaning.proofs.Parts.{three_fine, part_fine, part_place, part_extend, PartIs, Evaluates, part_ends}
use Rattle.hoist_meaning.proofs.PlainEnds.{quiet_value}

then_right : (op : BinaryOperator) (l : ℕ) (r : Value) → and_then (of_value r) (RightOf op l) (λ right. Done (binary_value op l right)) ≡ of_value (on_both (binary_value op) (Ok l) r)
then_right op l (Ok right) = refl
then_right op l (Err trap) = refl

module _ (program : ProgramTree) (ns : List ℕ) (f : ℕ) (text : Rows) (ds : List Binding) (gives loop : Bool) (op : BinaryOperator) (l r : RawExprTree)
    (whole_l : Evaluates program ns f text ds gives loop l) (whole_r : Evaluates program ns f text ds gives loop r) where
  -- what is asked, where the right operand holds a call or not
  record IsPair (b : Bool) (a : Agreement) (k v site : ℕ) (s : Spot) : Type 0 where
    source : AreSourceNames l × AreSourceNames r
    fine : AreFine gives loop s (before k l ++ part_named (is_named b l) (k + names_in l) (left_of k l) ++ before (part_after k b l) r)
    left_fine : expr_faults (in_tree (with_names (part_after k b l) (part_after v b l) r (with_part (is_named b l) (k + names_in l) (v + names_in l) (with_names k v l a)))) (RawBinary op (part_or (is_named b l) (k + names_in l) (left_of k l)) (left_of (part_after k b l) r)) ≡ []
    sites : SitesStand ns s k site l × SitesStand ns (after_part s k b l) (part_after k b l) (site + calls_in l) r

  abbrev EndsPair : Bool → Bool → Agreement → ℕ → ℕ → ℕ → Spot → Rows → Rows → List Item → Type 0
  EndsPair strict b a k v site s globals names rest =
      EndsAs program f text strict
      (IsLeft v (with_names (part_after k b l) (part_after v b l) r (with_part (is_named b l) (k + names_in l) (v + names_in l) (with_names k v l a))) (RawBinary op (part_or (is_named b l) (k + names_in l) (left_of k l)) (left_of (part_after k b l) r)) names) NoCall rest globals names
      (items_of ns s (before k l ++ part_named (is_named b l) (k + names_in l) (left_of k l) ++ before (part_after k b l) r) rest) (evaluate text globals (Binary op (deep.expr_of ds site l) (deep.expr_of ds (site + calls_in l) r)))

  -- the right operand, after a left one that is done
  right_ends : (strict : Bool) (a : Agreement) (k v v0 site : ℕ) (left : RawExprTree) (t : Spot) (globals start names : Rows) (rest : List Item) (word : ℕ) → v0 ≤ v → Keeps v0 start names → IsSettled k v a names left word → IsPlaced text names ds a v (names_in r) t → IsSound ns gives loop a k v site r t →
      EndsAs program f text strict (IsLeft v0 (with_names k v r a) (RawBinary op left (left_of k r)) start) NoCall rest globals names (items_of ns t (before k r) rest) (filled text globals (LeftOf op (deep.expr_of ds site r)) word)
  right_ends strict a k v v0 site left t globals start names rest word less kept settled placed sound =
      let d = with_names k v r a in
      let Leaf = IsLeft v0 d (RawBinary op left (left_of k r)) start in
      let done : (others later : Rows) (outcome : Value) → IsLeft v d (left_of k r) names others later outcome → Leaf others later (on_both (binary_value op) (Ok word) outcome) = λ others later outcome leaf. record {
        keeps = keeps_on v0 v start names later less kept leaf.keeps;
        is =
            let e = settled_value k v d later others (settled_on k v (v + names_in r) a d names later settled (names_extend k v r a) leaf.keeps) in
            λ i. on_both (binary_value op) (e i) (leaf.is i);
      } in
      then_ends program f text strict Leaf NoCall rest (IsLeft v d (left_of k r) names) rest (RightOf op word)
      (λ others later right leaf. outcome_ends program f text strict Leaf NoCall rest others later (Ok (binary_value op word right)) (done others later (Ok right) leaf))
      (λ others later trap leaf. outcome_ends program f text strict Leaf NoCall rest others later (Err trap) (done others later (Err trap) leaf))
      (whole_r false tt a k v site t globals names rest placed sound)

  pair_called : (strict : Bool) (a : Agreement) (k v site : ℕ) (s : Spot) (globals names : Rows) (rest : List Item) → IsPlaced text names ds a v (names_in l + one_if (is_named true l) + names_in r) s → IsPair true a k v site s → EndsPair strict true a k v site s globals names rest
  pair_called strict a k v site s globals names rest placed sound =
      let k1 = part_after k true l in
      let v1 = part_after v true l in
      let c = with_part (is_named true l) (k + names_in l) (v + names_in l) (with_names k v l a) in
      let d = with_names k1 v1 r c in
      let named = part_named (is_named true l) (k + names_in l) (left_of k l) in
      let part = part_or (is_named true l) (k + names_in l) (left_of k l) in
      let t = after_part s k true l in
      let few = placed.few in
      let room = names_in l + one_if (is_named true l) + names_in r in
      let three = three_fine gives loop s (before k l) named (before k1 r) sound.fine in
      let leaves = both_none (expr_faults (in_tree d) part) (expr_faults (in_tree d) (left_of k1 r)) sound.left_fine in
      let place_l = before_stands a k v l s placed.place (omega (arith, few)) in
      let sound_l : IsSound ns gives loop a k v site l s = record { source = sound.source.0; fine = three.0; left_fine = part_fine gives loop a k v l (after s (before k l)) place_l three.1; sites = sound.sites.0 } in
      let sound_r : IsSound ns gives loop c k1 v1 (site + calls_in l) r t = record { source = sound.source.1; fine = three.2; left_fine = leaves.1; sites = sound.sites.1 } in
      let Leaf = IsLeft v d (RawBinary op part (left_of k1 r)) names in
      let Part = PartIs program ns f text k1 v1 c part v names in
      let between = items_of ns t (before k1 r) rest in
      subst (λ items. EndsAs program f text strict Leaf NoCall rest globals names items (evaluate text globals (Binary op (deep.expr_of ds site l) (deep.expr_of ds (site + calls_in l) r)))) (sym (items_three ns s (before k l) named (before k1 r) rest))
      (then_ends program f text strict Leaf NoCall rest Part between (LeftOf op (deep.expr_of ds (site + calls_in l) r))
      (λ others later word leaf.
      right_ends strict c k1 v1 v (site + calls_in l) part t others names later rest word (omega arith) leaf.0 leaf.1
      (placed_on text names ds a c k v room v1 (names_in r) s t later placed (part_extend true a k v l) (part_place true a k v l s placed.place (omega (arith, few))) leaf.0 (omega arith) (omega arith)) sound_r)
      (λ others later trap leaf. absurd leaf)
      (part_ends program ns f text ds gives loop l whole_l a k v site room s globals names between (omega arith) placed sound_l))

  pair_quiet : holds_call r ≡ false → (strict : Bool) (a : Agreement) (k v site : ℕ) (s : Spot) (globals names : Rows) (rest : List Item) → IsPlaced text names ds a v (names_in l + 0 + names_in r) s → IsPair false a k v site s → EndsPair strict false a k v site s globals names rest
  pair_quiet quiet strict a k v site s globals names rest placed sound =
      let k1 = part_after k false l in
      let v1 = part_after v false l in
      let b = with_names k v l a in
      let ext = names_extend k v l a in
      let w = v + names_in l in
      let t = after_part s k false l in
      let more = no_more_names k1 v1 r b quiet in
      let left = no_left k1 r quiet in
      let part = left_of k l in
      let three = three_fine gives loop s (before k l) [] (before k1 r) sound.fine in
      let fine : expr_faults (in_tree b) (RawBinary op part r) ≡ [] = sym (λ i. expr_faults (in_tree (more i)) (RawBinary op part (left i))) ∙ sound.left_fine in
      let leaves = both_none (expr_faults (in_tree b) part) (expr_faults (in_tree b) r) fine in
      let right = deep.expr_of ds (site + calls_in l) r in
      let whole = evaluate text globals (Binary op (deep.expr_of ds site l) right) in
      let Leaf = IsLeft v b (RawBinary op part r) names in
      let items : items_of ns s (before k l ++ [] ++ before k1 r) rest ≡ items_of ns s (before k l) rest =
      items_three ns s (before k l) [] (before k1 r) rest ∙ ap (λ zs. items_of ns s (before k l) (items_of ns t zs rest)) (no_before k1 r quiet) in
      let core : EndsAs program f text strict Leaf NoCall rest globals names (items_of ns s (before k l) rest) whole =
      then_ends program f text strict Leaf NoCall rest (IsLeft v b part names) rest (LeftOf op right)
      (λ others later word leaf.
      let vr = value later others (expr_of (in_tree b) r) in
      let is = quiet_value text later others ds b (site + calls_in l) r (extends_agrees k v w a b ext placed.place.agrees) (extends_text k v w a b ext ∙ placed.text_names) (later_stands text names ds a b k v w s placed ext later leaf.keeps) sound.source.1 quiet leaves.1 in
      subst (λ e. EndsAs program f text strict Leaf NoCall rest others later rest e) (sym (ap (λ e. and_then e (RightOf op word) (λ right. Done (binary_value op word right))) is ∙ then_right op word vr))
      (outcome_ends program f text strict Leaf NoCall rest others later (on_both (binary_value op) (Ok word) vr) (record { keeps = leaf.keeps; is = ap (λ x. on_both (binary_value op) x vr) leaf.is })))
      (λ others later trap leaf.
      outcome_ends program f text strict Leaf NoCall rest others later (Err trap) (record { keeps = leaf.keeps; is = ap (λ x. on_both (binary_value op) x (value later others (expr_of (in_tree b) r))) leaf.is }))
      (whole_l false tt a k v site s globals names rest (less_placed text names ds a v (names_in l + 0 + names_in r) (names_in l) s (omega arith) placed) (record { source = sound.source.0; fine = three.0; left_fine = leaves.0; sites = sound.sites.0 })) in
      subst (λ c. EndsAs program f text strict (IsLeft v c (RawBinary op part (left_of k1 r)) names) NoCall rest globals names (items_of ns s (before k l ++ [] ++ before k1 r) rest) whole) (sym more)
      (subst (λ e. EndsAs program f text strict (IsLeft v b (RawBinary op part e) names) NoCall rest globals names (items_of ns s (before k l ++ [] ++ before k1 r) rest) whole) (sym left)
      (subst (λ is. EndsAs program f text strict Leaf NoCall rest globals names is whole) (sym items) core))

  pair_ends : (b : Bool) → holds_call r ≡ b → (strict : Bool) (a : Agreement) (k v site : ℕ) (s : Spot) (globals names : Rows) (rest : List Item) → IsPlaced text names ds a v (names_in l + one_if (is_named b l) + names_in r) s → IsPair b a k v site s → EndsPair strict b a k v site s globals names rest
  pair_ends true e = pair_called
  pair_ends false e = pair_quiet e

  pub binary_ends : Evaluates program ns f text ds gives loop (RawBinary op l r)
  binary_ends strict may a k v site s globals names rest placed sound =
      pair_ends (holds_call r) refl strict a k v site s globals names rest placed (record { source = sound.source; fine = sound.fine; left_fine = sound.left_fine; sites = sound.sites })
