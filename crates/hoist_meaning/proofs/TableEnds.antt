-- The ends of calls by a table: the index, the argument, and the call.
use Rattle.hoist_meaning.proofs.Common.{ℕ, ◌≡◌, ◌+◌, refl, sym, ap, subst, ◌∙◌, Bool, true, false, List, [], ◌∷◌, ◌++◌, length, arith, Ok, Err, NameTree, RawExprTree, RawTableCall, RawStmtTree, CallTable, Called, DeclareWith, ProgramTree, Value, value, with_first, Item, Simply, Binding, find, table_of, expr_faults, expr_of, right_faults, table_name_faults, table_call_faults, Spot, declare_faults, number_at, both_none, calls_in, new_name, used, declared_as, holds_call, is_named, one_if, names_in, part_after, part_or, part_named, left_of, table_call_left, before, table_before, no_left, no_before, AreSourceNames}
use Rattle.deep_mean.specs.Evaluation.{TableIndexOf, TableArgumentOf, Ready, ReadyTableCall, of_value, and_then, evaluate, filled}
use Rattle.deep_mean.specs.Naming as deep
use Rattle.hoist_meaning.proofs.KnownSpawn.{AreFine, both_fine, one_fine}
use Rattle.hoist_meaning.proofs.Bindings.{Agreement, New, in_text, in_tree, table_alike}
use Rattle.hoist_meaning.proofs.Items.{items_of, after, after_both, items_both, items_three, ReadyAlike}
use Rattle.hoist_meaning.proofs.Spots.{below_limit, with_part, with_names, before_stands}
use Rattle.hoist_meaning.proofs.Extends.{Extends, extends_text, extends_agrees, names_extend, no_more_names, part_and}
use Rattle.hoist_meaning.proofs.Ends.{Rows, NoCall, EndsAs, at_once, then_ends, told_ends}
use Rattle.hoist_meaning.proofs.Premises.{after_part, SitesStand, IsPlaced, IsSound, Keeps, IsLeft, ArePartsLeft, side_left, IsSideLeft, IsSideCall, IsSideSound}
use Rattle.hoist_meaning.proofs.Settled.{keeps_on, less_placed, later_stands, placed_on, settled_value, settled_on}
use Rattle.hoist_meaning.proofs.Parts.{three_fine, part_fine, part_place, part_extend, PartIs, Evaluates, part_ends}
use Rattle.hoist_meaning.proofs.PlainEnds.{quiet_value}
use Rattle.hoist_meaning.proofs.CallEnds.{trap_by, held_ends}
use Rattle.hoist_meaning.proofs.SidePlaces.{table_place}

pub three_after : (s : Spot) (xs ys zs : List RawStmtTree) → after s (xs ++ ys ++ zs) ≡ after (after (after s xs) ys) zs
three_after s xs ys zs = after_both s (xs ++ ys) zs ∙ ap (λ t. after t zs) (after_both s xs ys)

-- the call with the values of its index and its argument
record IsTableCalled (v : ℕ) (b : Agreement) (i e : RawExprTree) (site table : ℕ) (start globals after_ : Rows) (call : Ready) : Type 0 where
  index : ℕ
  argument : ℕ
  keeps : Keeps v start after_
  call_is : call ≡ ReadyTableCall site table index argument
  index_is : value after_ globals (expr_of (in_tree b) i) ≡ Ok index
  is : value after_ globals (expr_of (in_tree b) e) ≡ Ok argument

module _ (program : ProgramTree) (ns : List ℕ) (f : ℕ) (text : Rows) (ds : List Binding) (gives loop : Bool) (n : NameTree) (i e : RawExprTree)
    (whole_i : Evaluates program ns f text ds gives loop i) (whole_e : Evaluates program ns f text ds gives loop e) where
  abbrev index_by : Bool → ℕ → RawExprTree
  index_by b k = part_or (is_named b i) (k + names_in i) (left_of k i)

  abbrev argument_by : Bool → ℕ → RawExprTree
  argument_by b k = left_of (part_after k b i) e

  abbrev names_by : Bool → ℕ → ℕ → Agreement → Agreement
  names_by b k v a = with_names (part_after k b i) (part_after v b i) e (with_part (is_named b i) (k + names_in i) (v + names_in i) (with_names k v i a))

  abbrev before_by : Bool → ℕ → List RawStmtTree
  before_by b k = before k i ++ part_named (is_named b i) (k + names_in i) (left_of k i) ++ before (part_after k b i) e

  -- what is asked, where the argument holds a call or not
  record IsRow (b : Bool) (a : Agreement) (k v site : ℕ) (s : Spot) : Type 0 where
    source : AreSourceNames i × AreSourceNames e
    fine : AreFine gives loop s (before_by b k)
    index_fine : expr_faults (in_tree (names_by b k v a)) (index_by b k) ≡ []
    argument_fine : expr_faults (in_tree (names_by b k v a)) (argument_by b k) ≡ []
    sites : SitesStand ns s k (site + 1) i × SitesStand ns (after_part s k b i) (part_after k b i) (site + 1 + calls_in i) e

  abbrev EndsRow : Bool → Type 0
  EndsRow b =
      (a : Agreement) (k v site table : ℕ) (s : Spot) (globals names : Rows) (rest : List Item) → IsPlaced text names ds a v (names_in i + one_if (is_named b i) + names_in e) s → IsRow b a k v site s →
      EndsAs program f text true (ArePartsLeft v (names_by b k v a) (index_by b k ∷ argument_by b k ∷ []) names) (IsTableCalled v (names_by b k v a) (index_by b k) (argument_by b k) site table names) rest globals names (items_of ns s (before_by b k) rest)
      (and_then (evaluate text globals (deep.expr_of ds (site + 1) i)) (TableIndexOf site table (deep.expr_of ds (site + 1 + calls_in i) e)) (filled text globals (TableIndexOf site table (deep.expr_of ds (site + 1 + calls_in i) e))))

  row_called : EndsRow true
  row_called a k v site table s globals names rest placed sound =
      let k1 = part_after k true i in
      let v1 = part_after v true i in
      let c = with_part (is_named true i) (k + names_in i) (v + names_in i) (with_names k v i a) in
      let d = with_names k1 v1 e c in
      let named = part_named (is_named true i) (k + names_in i) (left_of k i) in
      let part = index_by true k in
      let argument_left = left_of k1 e in
      let t = after_part s k true i in
      let few = placed.few in
      let room = names_in i + one_if (is_named true i) + names_in e in
      let three = three_fine gives loop s (before k i) named (before k1 e) sound.fine in
      let place = before_stands a k v i s placed.place (omega (arith, few)) in
      let sound_i : IsSound ns gives loop a k v (site + 1) i s = record { source = sound.source.0; fine = three.0; left_fine = part_fine gives loop a k v i (after s (before k i)) place three.1; sites = sound.sites.0 } in
      let sound_e : IsSound ns gives loop c k1 v1 (site + 1 + calls_in i) e t = record { source = sound.source.1; fine = three.2; left_fine = sound.argument_fine; sites = sound.sites.1 } in
      let Leaf = ArePartsLeft v d (part ∷ argument_left ∷ []) names in
      let Whole = IsTableCalled v d part argument_left site table names in
      let between = items_of ns t (before k1 e) rest in
      let right = deep.expr_of ds (site + 1 + calls_in i) e in
      let ext = part_extend true a k v i in
      subst (λ items. EndsAs program f text true Leaf Whole rest globals names items (and_then (evaluate text globals (deep.expr_of ds (site + 1) i)) (TableIndexOf site table right) (filled text globals (TableIndexOf site table right)))) (sym (items_three ns s (before k i) named (before k1 e) rest))
      (then_ends program f text true Leaf Whole rest (PartIs program ns f text k1 v1 c part v names) between (TableIndexOf site table right)
      (λ others later index leaf.
      then_ends program f text true Leaf Whole rest (IsLeft v1 d argument_left later) rest (TableArgumentOf site table index)
      (λ others2 later2 argument leaf2.
      EndsAs.WholeCall others2 later2 rest (ReadyTableCall site table index argument) later2 (at_once program f text others2 later2 rest) (record {
        index = index;
        argument = argument;
        keeps = keeps_on v v1 names later later2 (omega arith) leaf.0 leaf2.keeps;
        call_is = refl;
        index_is = settled_value k1 v1 d later2 others2 (settled_on k1 v1 (v1 + names_in e) c d later later2 leaf.1 (names_extend k1 v1 e c) leaf2.keeps);
        is = leaf2.is;
      }))
      (λ others2 later2 trap leaf2.
      EndsAs.Fails others2 later2 rest trap later2 (at_once program f text others2 later2 rest) (record {
        keeps = keeps_on v v1 names later later2 (omega arith) leaf.0 leaf2.keeps;
        is =
            let first = settled_value k1 v1 d later2 others2 (settled_on k1 v1 (v1 + names_in e) c d later later2 leaf.1 (names_extend k1 v1 e c) leaf2.keeps) in
            let second = leaf2.is in
            λ j. with_first (first j) (with_first (second j) (Ok []));
      }))
      (whole_e false tt c k1 v1 (site + 1 + calls_in i) t others later rest
      (placed_on text names ds a c k v room v1 (names_in e) s t later placed ext (part_place true a k v i s placed.place (omega (arith, few))) leaf.0 (omega arith) (omega arith)) sound_e))
      (λ others later trap leaf. absurd leaf)
      (part_ends program ns f text ds gives loop i whole_i a k v (site + 1) room s globals names between (omega arith) placed sound_i))

  -- the argument's value at once
  argument_outcome : (v : ℕ) (b : Agreement) (site table index : ℕ) (left : RawExprTree) (others start later : Rows) (rest : List Item) → Keeps v start later → value later others (expr_of (in_tree b) left) ≡ Ok index →
      (outcome : Value) → value later others (expr_of (in_tree b) e) ≡ outcome →
      EndsAs program f text true (ArePartsLeft v b (left ∷ e ∷ []) start) (IsTableCalled v b left e site table start) rest others later rest (and_then (of_value outcome) (TableArgumentOf site table index) (filled text others (TableArgumentOf site table index)))
  argument_outcome v b site table index left others start later rest kept index_is (Ok argument) is =
      EndsAs.WholeCall others later rest (ReadyTableCall site table index argument) later (at_once program f text others later rest) (record { index = index; argument = argument; keeps = kept; call_is = refl; index_is = index_is; is = is })
  argument_outcome v b site table index left others start later rest kept index_is (Err trap) is =
      EndsAs.Fails others later rest trap later (at_once program f text others later rest) (record { keeps = kept; is = λ j. with_first (index_is j) (with_first (is j) (Ok [])) })

  row_quiet : holds_call e ≡ false → EndsRow false
  row_quiet quiet a k v site table s globals names rest placed sound =
      let k1 = part_after k false i in
      let v1 = part_after v false i in
      let b = with_names k v i a in
      let ext = names_extend k v i a in
      let w = v + names_in i in
      let t = after_part s k false i in
      let grown = no_more_names k1 v1 e b quiet in
      let stay = no_left k1 e quiet in
      let left = left_of k i in
      let three = three_fine gives loop s (before k i) [] (before k1 e) sound.fine in
      let index_fine : expr_faults (in_tree b) left ≡ [] = sym (ap (λ c. expr_faults (in_tree c) left) grown) ∙ sound.index_fine in
      let argument_fine : expr_faults (in_tree b) e ≡ [] = sym (λ j. expr_faults (in_tree (grown j)) (stay j)) ∙ sound.argument_fine in
      let right = deep.expr_of ds (site + 1 + calls_in i) e in
      let whole = and_then (evaluate text globals (deep.expr_of ds (site + 1) i)) (TableIndexOf site table right) (filled text globals (TableIndexOf site table right)) in
      let Leaf = ArePartsLeft v b (left ∷ e ∷ []) names in
      let Whole = IsTableCalled v b left e site table names in
      let items : items_of ns s (before k i ++ [] ++ before k1 e) rest ≡ items_of ns s (before k i) rest = items_three ns s (before k i) [] (before k1 e) rest ∙ ap (λ zs. items_of ns s (before k i) (items_of ns t zs rest)) (no_before k1 e quiet) in
      let core : EndsAs program f text true Leaf Whole rest globals names (items_of ns s (before k i) rest) whole =
      then_ends program f text true Leaf Whole rest (IsLeft v b left names) rest (TableIndexOf site table right)
      (λ others later index leaf.
      let is = quiet_value text later others ds b (site + 1 + calls_in i) e (extends_agrees k v w a b ext placed.place.agrees) (extends_text k v w a b ext ∙ placed.text_names) (later_stands text names ds a b k v w s placed ext later leaf.keeps) sound.source.1 quiet argument_fine in
      subst (λ ev. EndsAs program f text true Leaf Whole rest others later rest (and_then ev (TableArgumentOf site table index) (filled text others (TableArgumentOf site table index)))) (sym is)
      (argument_outcome v b site table index left others names later rest leaf.keeps leaf.is (value later others (expr_of (in_tree b) e)) refl))
      (λ others later trap leaf.
      EndsAs.Fails others later rest trap later (at_once program f text others later rest) (record { keeps = leaf.keeps; is = ap (λ x. with_first x (with_first (value later others (expr_of (in_tree b) e)) (Ok []))) leaf.is }))
      (whole_i false tt a k v (site + 1) s globals names rest (less_placed text names ds a v (names_in i + 0 + names_in e) (names_in i) s (omega arith) placed) (record { source = sound.source.0; fine = three.0; left_fine = index_fine; sites = sound.sites.0 })) in
      let all = items_of ns s (before k i ++ [] ++ before k1 e) rest in
      subst (λ c. EndsAs program f text true (ArePartsLeft v c (left ∷ left_of k1 e ∷ []) names) (IsTableCalled v c left (left_of k1 e) site table names) rest globals names all whole) (sym grown)
      (subst (λ x. EndsAs program f text true (ArePartsLeft v b (left ∷ x ∷ []) names) (IsTableCalled v b left x site table names) rest globals names all whole) (sym stay)
      (subst (λ is. EndsAs program f text true Leaf Whole rest globals names is whole) (sym items) core))

  row_by : (b : Bool) → holds_call e ≡ b → EndsRow b
  row_by true h = row_called
  row_by false h = row_quiet h

  -- as a statement's expression
  pub side_table_ends : (used_ : Bool) (a : Agreement) (k v site : ℕ) (s : Spot) (globals names : Rows) (rest : List Item) → IsPlaced text names ds a v (names_in i + one_if (is_named (holds_call e) i) + names_in e) s →
      IsSideSound ns gives loop used_ a k v site (RawTableCall n i e) s →
      EndsAs program f text true (IsSideLeft v (side_left ns s k (RawTableCall n i e)) names) (IsSideCall v (side_left ns s k (RawTableCall n i e)) names) rest globals names (items_of ns s (table_before k i e) rest) (evaluate text globals (deep.expr_of ds site (RawTableCall n i e)))
  side_table_ends used_ a k v site s globals names rest placed sound =
      let b = holds_call e in
      let k1 = part_after k b i in
      let v1 = part_after v b i in
      let c = with_part (is_named b i) (k + names_in i) (v + names_in i) (with_names k v i a) in
      let d = names_by b k v a in
      let index = index_by b k in
      let argument = argument_by b k in
      let t = after s (table_before k i e) in
      let place = table_place i e a k v s placed.place placed.few in
      let ext : Extends k v (v1 + names_in e) a d = part_and b k v (v1 + names_in e) i a d (omega arith) (names_extend k v i a) (names_extend k1 v1 e c) in
      let texts : in_text d ≡ ds = extends_text k v (v1 + names_in e) a d ext ∙ placed.text_names in
      let table = table_of (find n.text ds) in
      let tables : table_of (find n.text (in_tree d)) ≡ table = sym (table_alike d n.text place.agrees sound.source.0) ∙ ap (λ bs. table_of (find n.text bs)) texts in
      let faults = both_none (table_name_faults (find n.text (in_tree d)) n.at) (expr_faults (in_tree d) index ++ expr_faults (in_tree d) argument) sound.left_fine in
      let parts = both_none (expr_faults (in_tree d) index) (expr_faults (in_tree d) argument) faults.1 in
      let made = CallTable (number_at ns t.site) (table_of (find n.text (in_tree d))) (expr_of (in_tree d) index) (expr_of (in_tree d) argument) in
      let left : Called made ≡ side_left ns s k (RawTableCall n i e) = sym (ap (λ bs. Called (CallTable (number_at ns t.site) (table_of (find n.text bs)) (expr_of bs index) (expr_of bs argument))) place.names) in
      let number : number_at ns t.site ≡ site = ap (λ (u : Spot). number_at ns u.site) (three_after s (before k i) (part_named (is_named b i) (k + names_in i) (left_of k i)) (before k1 e)) ∙ sound.sites.2 in
      let ends = row_by b refl a k v site table s globals names rest placed (record { source = (sound.source.1, sound.source.2); fine = sound.fine; index_fine = parts.0; argument_fine = parts.1; sites = (sound.sites.0, sound.sites.1) }) in
      let Left = ArePartsLeft v d (index ∷ argument ∷ []) names in
      let Whole = IsTableCalled v d index argument site table names in
      subst (λ r. EndsAs program f text true (IsSideLeft v r names) (IsSideCall v r names) rest globals names (items_of ns s (table_before k i e) rest) (evaluate text globals (deep.expr_of ds site (RawTableCall n i e)))) left
      (told_ends program f text true Left (IsSideLeft v (Called made) names) Whole (IsSideCall v (Called made) names) rest (λ others later outcome leaf. trap_by v d (index ∷ argument ∷ []) made names others later outcome refl leaf)
      (λ others later call leaf. record { keeps = leaf.keeps; is = subst (λ r. ReadyAlike later others r made) (sym leaf.call_is) (number, tables, leaf.index_is, leaf.is) }) ends)

  -- within one
  pub table_ends : Evaluates program ns f text ds gives loop (RawTableCall n i e)
  table_ends true may a k v site s globals names rest placed sound = absurd may
  table_ends false may a k v site s globals names rest placed sound =
      let b = holds_call e in
      let k1 = part_after k b i in
      let v1 = part_after v b i in
      let d = names_by b k v a in
      let t = after s (table_before k i e) in
      let h = k1 + names_in e in
      let x = v1 + names_in e in
      let few = placed.few in
      let room = names_in i + one_if (is_named b i) + names_in e in
      let less = less_placed text names ds a v (room + 1) room s (omega arith) placed in
      let place = table_place i e a k v s placed.place less.few in
      let declared = declared_as h (table_call_left k n i e) in
      let fines = both_fine gives loop s (table_before k i e) (declared ∷ []) sound.fine in
      let call_fine = both_none (declare_faults t (new_name h)) (right_faults t.names (table_call_left k n i e)) (one_fine gives loop t declared fines.1) in
      let sound_call : IsSideSound ns gives loop true a k v site (RawTableCall n i e) s = record {
        source = sound.source;
        fine = fines.0;
        left_fine = ap (λ bs. table_call_faults bs n (index_by b k) (argument_by b k)) (sym place.names) ∙ call_fine.1;
        sites = sound.sites;
      } in
      let made = CallTable (number_at ns t.site) (table_of (find n.text t.names)) (expr_of t.names (index_by b k)) (expr_of t.names (argument_by b k)) in
      let between = Simply (DeclareWith x (Called made)) ∷ rest in
      let number = below_limit (length t.sizes) x place.count (omega (arith, few)) in
      let items : items_of ns s (table_before k i e ++ declared ∷ []) rest ≡ items_of ns s (table_before k i e) between =
      items_both ns s (table_before k i e) (declared ∷ []) rest ∙ ap (λ y. items_of ns s (table_before k i e) (Simply (DeclareWith y (Called made)) ∷ rest)) number in
      subst (λ is. EndsAs program f text false (IsLeft v (New h x d) (used h) names) NoCall rest globals names is (evaluate text globals (deep.expr_of ds site (RawTableCall n i e)))) (sym items)
      (held_ends program ns f text h x v d made names rest (omega arith) (placed.wide x (omega arith) (omega arith)) (side_table_ends true a k v site s globals names between less sound_call))
