-- The ends of arguments, from left to right: each is done before a later one that holds a call, and those after the last call are evaluated
-- with the call itself.
use Rattle.hoist_meaning.proofs.Common.{ℕ, ◌≡◌, ◌+◌, ◌≤◌, refl, sym, ap, subst, ◌∙◌, Bool, true, false, List, [], ◌∷◌, ◌++◌, append_assoc, append-nil, arith, Result, Ok, Err, TrapKind, RawExprTree, RawExprTrees, NoExprs, And, RawStmtTree, ProgramTree, Value, value, values, with_first, Item, Binding, expr_faults, exprs_faults, listed, expr_of, exprs_of, Spot, both_none, Callee, calls_in, holds_call, hold_call, is_named, one_if, names_in, arguments_names, part_after, part_or, part_named, left_of, arguments_left, before, arguments_before, or_left, or_right, no_left, no_before, AreSourceNames, AllSourceNames}
use Rattle.deep_mean.specs.Evaluation.{Around, ArgumentOf, ReadyCall, Evaluation, Trapped, Calls, of_value, and_then, evaluate_arguments, filled}
use Rattle.deep_mean.specs.Naming as deep
use Rattle.hoist_meaning.proofs.KnownSpawn.{AreFine}
use Rattle.hoist_meaning.proofs.Bindings.{Agreement, in_text, in_tree, IsAgreement, NamesStand}
use Rattle.hoist_meaning.proofs.Items.{items_of, after, items_three}
use Rattle.hoist_meaning.proofs.Spots.{with_part, with_names, with_argument_names, before_stands}
use Rattle.hoist_meaning.proofs.Extends.{extends_text, extends_agrees, names_extend, no_more_argument_names}
use Rattle.hoist_meaning.proofs.Ends.{Rows, EndsAs, at_once, then_ends}
use Rattle.hoist_meaning.proofs.Premises.{after_part, SitesStand, ArgumentSitesStand, IsPlaced, IsSound, Keeps, IsLeft, evaluated, AreSound, ArePartsLeft, IsCalled}
use Rattle.hoist_meaning.proofs.Settled.{keeps_on, less_placed, later_stands, placed_on, AreSettled, settled_value, all_settled_on, all_settled_more, one_more_settled}
use Rattle.hoist_meaning.proofs.Parts.{three_fine, part_fine, part_place, part_extend, PartIs, Evaluates, part_ends}
use Rattle.hoist_meaning.proofs.PlainEnds.{quiet_value}

-- ---- arguments without a call stay as they are

pub no_arguments_left : (k : ℕ) (es : RawExprTrees) → hold_call es ≡ false → arguments_left false k es ≡ es
no_arguments_left k NoExprs h = refl
no_arguments_left k (And e es) h =
    let hr = or_right (holds_call e) (hold_call es) h in
    rw (hr, no_left k e (or_left (holds_call e) (hold_call es) h), no_arguments_left (part_after k false e) es hr) refl

pub no_arguments_before : (k : ℕ) (es : RawExprTrees) → hold_call es ≡ false → arguments_before false k es ≡ []
no_arguments_before k NoExprs h = refl
no_arguments_before k (And e es) h =
    let hr = or_right (holds_call e) (hold_call es) h in
    rw (hr, no_before k e (or_left (holds_call e) (hold_call es) h), no_arguments_before (part_after k false e) es hr) refl

-- ---- values one after another

-- values that are there, and then the outcome of those to come
abbrev prefixed : List ℕ → Result (List ℕ) TrapKind → Result (List ℕ) TrapKind
prefixed words (Ok rest) = Ok (words ++ rest)
prefixed words (Err trap) = Err trap

prefixed_first : (word : ℕ) (words : List ℕ) (r : Result (List ℕ) TrapKind) → with_first (Ok word) (prefixed words r) ≡ prefixed (word ∷ words) r
prefixed_first word words (Ok rest) = refl
prefixed_first word words (Err trap) = refl

prefixed_none : (r : Result (List ℕ) TrapKind) → r ≡ prefixed [] r
prefixed_none (Ok rest) = refl
prefixed_none (Err trap) = refl

prefixed_words : (words rest : List ℕ) → prefixed words (Ok rest) ≡ Ok (words ++ rest)
prefixed_words words rest = refl

prefixed_trap : (words : List ℕ) (trap : TrapKind) → prefixed words (Err trap) ≡ Err trap
prefixed_trap words trap = refl

settled_values : (k v : ℕ) (b : Agreement) (names globals : Rows) (xs : List RawExprTree) {ls : List RawExprTree} {words : List ℕ} → AreSettled k v b names ls words →
    values names globals (exprs_of (in_tree b) (ls ++ xs)) ≡ prefixed words (values names globals (exprs_of (in_tree b) xs))
settled_values k v b names globals xs AreSettled.none = prefixed_none (values names globals (exprs_of (in_tree b) xs))
settled_values k v b names globals xs (AreSettled.more e word es words one rest) =
    let first = settled_value k v b names globals one in
    let others = settled_values k v b names globals xs rest in
    (λ i. with_first (first i) (others i)) ∙ prefixed_first word words (values names globals (exprs_of (in_tree b) xs))

-- arguments without a call are evaluated at once
abbrev pub calls_with : ℕ → Callee → List ℕ → Result (List ℕ) TrapKind → Evaluation
calls_with site callee done (Ok words) = Calls (ReadyCall site callee (done ++ words)) []
calls_with site callee done (Err trap) = Trapped trap

with_argument : (site : ℕ) (callee : Callee) (done : List ℕ) (v : Value) (rest : Result (List ℕ) TrapKind) (around : Around) (next : ℕ → Evaluation) → ((word : ℕ) → next word ≡ calls_with site callee (done ++ word ∷ []) rest) →
    and_then (of_value v) around next ≡ calls_with site callee done (with_first v rest)
with_argument site callee done (Ok word) (Ok words) around next h = h word ∙ ap (λ ws. Calls (ReadyCall site callee ws) []) (append_assoc done (word ∷ []) words)
with_argument site callee done (Ok word) (Err trap) around next h = h word
with_argument site callee done (Err trap) rest around next h = refl

pub no_argument : (site : ℕ) (callee : Callee) (done : List ℕ) → Calls (ReadyCall site callee done) [] ≡ calls_with site callee done (Ok [])
no_argument site callee done = ap (λ ws. Calls (ReadyCall site callee ws) []) (sym (append-nil done))

pub quiet_arguments : (text later globals : Rows) (ds : List Binding) (b : Agreement) (site call : ℕ) (callee : Callee) (es : RawExprTrees) (done : List ℕ) → IsAgreement b → in_text b ≡ ds → NamesStand b text later → AllSourceNames es → hold_call es ≡ false → exprs_faults (in_tree b) (listed es) ≡ [] →
    evaluate_arguments text globals call callee done (deep.arguments_of ds false site es) ≡ calls_with call callee done (values later globals (exprs_of (in_tree b) (listed es)))
quiet_arguments text later globals ds b site call callee NoExprs done agrees same stand source quiet fine = no_argument call callee done
quiet_arguments text later globals ds b site call callee (And e es) done agrees same stand source quiet fine =
    let fs = both_none (expr_faults (in_tree b) e) (exprs_faults (in_tree b) (listed es)) fine in
    let first = quiet_value text later globals ds b site e agrees same stand source.0 (or_left (holds_call e) (hold_call es) quiet) fs.0 in
    let rest = deep.arguments_of ds false (site + calls_in e) es in
    ap (λ ev. and_then ev (ArgumentOf call callee done rest) (λ word. evaluate_arguments text globals call callee (done ++ word ∷ []) rest)) first
    ∙ with_argument call callee done (value later globals (expr_of (in_tree b) e)) (values later globals (exprs_of (in_tree b) (listed es))) (ArgumentOf call callee done rest) (λ word. evaluate_arguments text globals call callee (done ++ word ∷ []) rest)
    (λ word. quiet_arguments text later globals ds b (site + calls_in e) call callee es (done ++ word ∷ []) agrees same stand source.1 (or_right (holds_call e) (hold_call es) quiet) fs.1)

-- ---- the ends

module _ (program : ProgramTree) (ns : List ℕ) (f : ℕ) (text : Rows) (ds : List Binding) (gives loop : Bool) where
  -- after parts that are done the arguments come to a trap on the way or to the call
  abbrev pub ArgumentsEnd : Bool → RawExprTrees → Type 0
  ArgumentsEnd stays es =
      (a : Agreement) (k v first site call : ℕ) (callee : Callee) (ls : List RawExprTree) (done : List ℕ) (s : Spot) (globals start names : Rows) (rest : List Item) → first ≤ v → Keeps first start names → AreSettled k v a names ls done →
      IsPlaced text names ds a v (arguments_names stays es) s → AreSound ns gives loop stays a k v site es s →
      EndsAs program f text true (ArePartsLeft first (with_argument_names stays k v es a) (ls ++ evaluated stays k es) start) (IsCalled first (with_argument_names stays k v es a) (ls ++ evaluated stays k es) call callee start) rest globals names
      (items_of ns s (arguments_before stays k es) rest) (evaluate_arguments text globals call callee done (deep.arguments_of ds stays site es))

  -- the call itself, after parts that are done
  all_done : (a : Agreement) (k v first call : ℕ) (callee : Callee) (ls : List RawExprTree) (done : List ℕ) (globals start names : Rows) (rest : List Item) → Keeps first start names → AreSettled k v a names ls done →
      EndsAs program f text true (ArePartsLeft first a (ls ++ []) start) (IsCalled first a (ls ++ []) call callee start) rest globals names rest (Calls (ReadyCall call callee done) [])
  all_done a k v first call callee ls done globals start names rest kept settled =
      EndsAs.WholeCall globals names rest (ReadyCall call callee done) names (at_once program f text globals names rest)
      (record { words = done; keeps = kept; call_is = refl; is = settled_values k v a names globals [] settled ∙ prefixed_words done [] ∙ ap Ok (append-nil done) })

  pub none_end : (stays : Bool) → ArgumentsEnd stays NoExprs
  none_end true a k v first site call callee ls done s globals start names rest less kept settled placed sound = all_done a k v first call callee ls done globals start names rest kept settled
  none_end false a k v first site call callee ls done s globals start names rest less kept settled placed sound = all_done a k v first call callee ls done globals start names rest kept settled

  -- the first argument of `spawn` isn't evaluated
  pub first_stays : (e : RawExprTree) (es : RawExprTrees) → ArgumentsEnd false es → ArgumentsEnd true (And e es)
  first_stays e es whole a k v first site call callee ls done s globals start names rest less kept settled placed sound =
      whole a k v first (site + calls_in e) call callee ls done s globals start names rest less kept settled placed (record { source = sound.source.1; fine = sound.fine; left_fine = sound.left_fine; sites = sound.sites })

  module _ (e : RawExprTree) (es : RawExprTrees) (whole_e : Evaluates program ns f text ds gives loop e) (whole_es : ArgumentsEnd false es) where
    abbrev left_by : Bool → ℕ → List RawExprTree
    left_by b k = part_or (is_named b e) (k + names_in e) (left_of k e) ∷ listed (arguments_left false (part_after k b e) es)

    abbrev names_by : Bool → ℕ → ℕ → Agreement → Agreement
    names_by b k v a = with_argument_names false (part_after k b e) (part_after v b e) es (with_part (is_named b e) (k + names_in e) (v + names_in e) (with_names k v e a))

    abbrev before_by : Bool → ℕ → List RawStmtTree
    before_by b k = before k e ++ part_named (is_named b e) (k + names_in e) (left_of k e) ++ arguments_before false (part_after k b e) es

    record IsRow (b : Bool) (a : Agreement) (k v site : ℕ) (s : Spot) : Type 0 where
      source : AreSourceNames e × AllSourceNames es
      fine : AreFine gives loop s (before_by b k)
      left_fine : exprs_faults (in_tree (names_by b k v a)) (left_by b k) ≡ []
      sites : SitesStand ns s k site e × ArgumentSitesStand ns (after_part s k b e) (part_after k b e) (site + calls_in e) false es

    abbrev EndsRow : Bool → Type 0
    EndsRow b =
        (a : Agreement) (k v first site call : ℕ) (callee : Callee) (ls : List RawExprTree) (done : List ℕ) (s : Spot) (globals start names : Rows) (rest : List Item) → first ≤ v → Keeps first start names → AreSettled k v a names ls done →
        IsPlaced text names ds a v (names_in e + one_if (is_named b e) + arguments_names false es) s → IsRow b a k v site s →
        EndsAs program f text true (ArePartsLeft first (names_by b k v a) (ls ++ left_by b k) start) (IsCalled first (names_by b k v a) (ls ++ left_by b k) call callee start) rest globals names
        (items_of ns s (before_by b k) rest) (evaluate_arguments text globals call callee done (deep.arguments_of ds false site (And e es)))

    row_called : EndsRow true
    row_called a k v first site call callee ls done s globals start names rest less kept settled placed sound =
        let k1 = part_after k true e in
        let v1 = part_after v true e in
        let c = with_part (is_named true e) (k + names_in e) (v + names_in e) (with_names k v e a) in
        let d = with_argument_names false k1 v1 es c in
        let named = part_named (is_named true e) (k + names_in e) (left_of k e) in
        let part = part_or (is_named true e) (k + names_in e) (left_of k e) in
        let xs = listed (arguments_left false k1 es) in
        let t = after_part s k true e in
        let few = placed.few in
        let room = names_in e + one_if (is_named true e) + arguments_names false es in
        let three = three_fine gives loop s (before k e) named (arguments_before false k1 es) sound.fine in
        let leaves = both_none (expr_faults (in_tree d) part) (exprs_faults (in_tree d) xs) sound.left_fine in
        let place = before_stands a k v e s placed.place (omega (arith, few)) in
        let sound_e : IsSound ns gives loop a k v site e s = record { source = sound.source.0; fine = three.0; left_fine = part_fine gives loop a k v e (after s (before k e)) place three.1; sites = sound.sites.0 } in
        let sound_es : AreSound ns gives loop false c k1 v1 (site + calls_in e) es t = record { source = sound.source.1; fine = three.2; left_fine = leaves.1; sites = sound.sites.1 } in
        let Leaf = ArePartsLeft first d (ls ++ part ∷ xs) start in
        let Whole = IsCalled first d (ls ++ part ∷ xs) call callee start in
        let between = items_of ns t (arguments_before false k1 es) rest in
        let around = ArgumentOf call callee done (deep.arguments_of ds false (site + calls_in e) es) in
        let ext = part_extend true a k v e in
        subst (λ items. EndsAs program f text true Leaf Whole rest globals names items (evaluate_arguments text globals call callee done (deep.arguments_of ds false site (And e es)))) (sym (items_three ns s (before k e) named (arguments_before false k1 es) rest))
        (then_ends program f text true Leaf Whole rest (PartIs program ns f text k1 v1 c part v names) between around
        (λ others later word leaf.
        let many = one_more_settled k1 v1 c later part word (all_settled_more k v k1 v1 c later (omega arith) (omega arith) (all_settled_on k v v1 a c names later settled ext leaf.0)) leaf.1 in
        subst (λ ys. EndsAs program f text true (ArePartsLeft first d ys start) (IsCalled first d ys call callee start) rest others later between (filled text others around word)) (append_assoc ls (part ∷ []) xs)
        (whole_es c k1 v1 first (site + calls_in e) call callee (ls ++ part ∷ []) (done ++ word ∷ []) t others start later rest (omega (arith, less)) (keeps_on first v start names later less kept leaf.0) many
        (placed_on text names ds a c k v room v1 (arguments_names false es) s t later placed ext (part_place true a k v e s placed.place (omega (arith, few))) leaf.0 (omega arith) (omega arith)) sound_es))
        (λ others later trap leaf. absurd leaf)
        (part_ends program ns f text ds gives loop e whole_e a k v site room s globals names between (omega arith) placed sound_e))

    row_outcome : (b : Agreement) (k v first call : ℕ) (callee : Callee) (ls : List RawExprTree) (done : List ℕ) (word : ℕ) (left : RawExprTree) (others start later : Rows) (rest : List Item) → Keeps first start later → AreSettled k v b later ls done →
        value later others (expr_of (in_tree b) left) ≡ Ok word → (r : Result (List ℕ) TrapKind) → values later others (exprs_of (in_tree b) (listed es)) ≡ r →
        EndsAs program f text true (ArePartsLeft first b (ls ++ left ∷ listed es) start) (IsCalled first b (ls ++ left ∷ listed es) call callee start) rest others later rest (calls_with call callee (done ++ word ∷ []) r)
    row_outcome b k v first call callee ls done word left others start later rest kept settled is (Ok words) e =
        EndsAs.WholeCall others later rest (ReadyCall call callee ((done ++ word ∷ []) ++ words)) later (at_once program f text others later rest) (record {
          words = (done ++ word ∷ []) ++ words;
          keeps = kept;
          call_is = refl;
          is = settled_values k v b later others (left ∷ listed es) settled ∙ (λ i. prefixed done (with_first (is i) (e i))) ∙ ap Ok (sym (append_assoc done (word ∷ []) words));
        })
    row_outcome b k v first call callee ls done word left others start later rest kept settled is (Err trap) e =
        EndsAs.Fails others later rest trap later (at_once program f text others later rest)
        (record { keeps = kept; is = settled_values k v b later others (left ∷ listed es) settled ∙ (λ i. prefixed done (with_first (is i) (e i))) })

    row_quiet : hold_call es ≡ false → EndsRow false
    row_quiet quiet a k v first site call callee ls done s globals start names rest less kept settled placed sound =
        let k1 = part_after k false e in
        let v1 = part_after v false e in
        let b = with_names k v e a in
        let ext = names_extend k v e a in
        let w = v + names_in e in
        let t = after_part s k false e in
        let left = left_of k e in
        let grown = no_more_argument_names k1 v1 es b quiet in
        let stay = no_arguments_left k1 es quiet in
        let three = three_fine gives loop s (before k e) [] (arguments_before false k1 es) sound.fine in
        let fine : exprs_faults (in_tree b) (left ∷ listed es) ≡ [] = sym (λ i. exprs_faults (in_tree (grown i)) (left ∷ listed (stay i))) ∙ sound.left_fine in
        let leaves = both_none (expr_faults (in_tree b) left) (exprs_faults (in_tree b) (listed es)) fine in
        let others_to_do = deep.arguments_of ds false (site + calls_in e) es in
        let whole = evaluate_arguments text globals call callee done (deep.arguments_of ds false site (And e es)) in
        let Leaf = ArePartsLeft first b (ls ++ left ∷ listed es) start in
        let Whole = IsCalled first b (ls ++ left ∷ listed es) call callee start in
        let items : items_of ns s (before k e ++ [] ++ arguments_before false k1 es) rest ≡ items_of ns s (before k e) rest =
        items_three ns s (before k e) [] (arguments_before false k1 es) rest ∙ ap (λ zs. items_of ns s (before k e) (items_of ns t zs rest)) (no_arguments_before k1 es quiet) in
        let core : EndsAs program f text true Leaf Whole rest globals names (items_of ns s (before k e) rest) whole =
        then_ends program f text true Leaf Whole rest (IsLeft v b left names) rest (ArgumentOf call callee done others_to_do)
        (λ others later word leaf.
        let is = quiet_arguments text later others ds b (site + calls_in e) call callee es (done ++ word ∷ []) (extends_agrees k v w a b ext placed.place.agrees) (extends_text k v w a b ext ∙ placed.text_names)
        (later_stands text names ds a b k v w s placed ext later leaf.keeps) sound.source.1 quiet leaves.1 in
        subst (λ ev. EndsAs program f text true Leaf Whole rest others later rest ev) (sym is)
        (row_outcome b k v first call callee ls done word left others start later rest (keeps_on first v start names later less kept leaf.keeps) (all_settled_on k v w a b names later settled ext leaf.keeps) leaf.is
        (values later others (exprs_of (in_tree b) (listed es))) refl))
        (λ others later trap leaf.
        EndsAs.Fails others later rest trap later (at_once program f text others later rest) (record {
          keeps = keeps_on first v start names later less kept leaf.keeps;
          is =
              settled_values k v b later others (left ∷ listed es) (all_settled_on k v w a b names later settled ext leaf.keeps)
              ∙ ap (λ x. prefixed done (with_first x (values later others (exprs_of (in_tree b) (listed es))))) leaf.is ∙ prefixed_trap done trap;
        }))
        (whole_e false tt a k v site s globals names rest (less_placed text names ds a v (names_in e + 0 + arguments_names false es) (names_in e) s (omega arith) placed) (record { source = sound.source.0; fine = three.0; left_fine = leaves.0; sites = sound.sites.0 })) in
        let all = items_of ns s (before k e ++ [] ++ arguments_before false k1 es) rest in
        subst (λ c. EndsAs program f text true (ArePartsLeft first c (ls ++ left ∷ listed (arguments_left false k1 es)) start) (IsCalled first c (ls ++ left ∷ listed (arguments_left false k1 es)) call callee start) rest globals names all whole) (sym grown)
        (subst (λ xs. EndsAs program f text true (ArePartsLeft first b (ls ++ left ∷ listed xs) start) (IsCalled first b (ls ++ left ∷ listed xs) call callee start) rest globals names all whole) (sym stay)
        (subst (λ is. EndsAs program f text true Leaf Whole rest globals names is whole) (sym items) core))

    row_by : (b : Bool) → hold_call es ≡ b → EndsRow b
    row_by true e = row_called
    row_by false e = row_quiet e

    pub row_ends : ArgumentsEnd false (And e es)
    row_ends a k v first site call callee ls done s globals start names rest less kept settled placed sound =
        row_by (hold_call es) refl a k v first site call callee ls done s globals start names rest less kept settled placed (record { source = sound.source; fine = sound.fine; left_fine = sound.left_fine; sites = sound.sites })
