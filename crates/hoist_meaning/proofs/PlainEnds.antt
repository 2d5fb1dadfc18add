-- The ends of numbers, names, elements, unary operators and parentheses: they add no item of their own.
use Rattle.hoist_meaning.proofs.Common.{ℕ, ◌≡◌, ◌+◌, refl, sym, ap, subst, ◌∙◌, Bool, true, false, not, List, [], length, Option, Some, None, ◌%◌, ◌^◌, nat_lt, slice_index, Ok, Err, UnaryOperator, NameTree, RawExprTree, RawNumber, RawName, RawElement, RawUnary, RawParenthesized, ProgramTree, unary_value, Value, value, in_range, element, on_one, Item, Meaning, Variable, Found, Rule, Binding, find, is_scalar, is_array, variable_in, variable_of, use_faults, array_faults, expr_faults, both_none, not_broken, DeepExpr, IndexOfLocal, IndexOfGlobal, OperandOf, InParentheses, of_value, evaluate, holds_call, names_in, left_of, before, AreSourceNames, not-false}
use Rattle.scope_rules.specs.Expressions as scope
use Rattle.deep_mean.specs.Naming as deep
use Rattle.hoist_meaning.proofs.Bindings.{Agreement, in_text, in_tree, IsAgreement, Paired, NamesStand, LocalAlike, MeaningAlike, FoundAlike, found_alike}
use Rattle.hoist_meaning.proofs.Values.{value_alike}
use Rattle.hoist_meaning.proofs.Items.{items_of, after}
use Rattle.hoist_meaning.proofs.Spots.{with_names}
use Rattle.hoist_meaning.proofs.Extends.{extends_text, extends_agrees, names_extend}
use Rattle.hoist_meaning.proofs.Ends.{Rows, NoCall, EndsAs, outcome_ends, then_ends}
use Rattle.hoist_meaning.proofs.Premises.{Keeps, IsLeft}
use Rattle.hoist_meaning.proofs.Settled.{keeps_all, later_stands}
use Rattle.hoist_meaning.proofs.Parts.{Evaluates}

-- ---- a name that stands for a variable or a global

-- a variable in both, or the same global
pub data VariablePair (b : Agreement) : Variable → Variable → Type 0 where
  BothLocal : (x y : ℕ) → Paired b x y → VariablePair b (Variable.Local x) (Variable.Local y)
  BothGlobal : (g : ℕ) → VariablePair b (Variable.Global g) (Variable.Global g)

abbrev pub IsVariable : Meaning → Type 0
IsVariable (Meaning.Local x array) = Unit {0}
IsVariable (Meaning.Global g array) = Unit {0}
IsVariable _ = ⊥

pub array_variable : (n : Meaning) → is_array n ≡ true → IsVariable n
array_variable (Meaning.Local x array) s = tt
array_variable (Meaning.Global g array) s = tt
array_variable _ s = absurd (let wrong : false ≡ true = s in cc)

pub scalar_variable : (n : Meaning) → is_scalar n ≡ true → IsVariable n
scalar_variable (Meaning.Local x array) s = tt
scalar_variable (Meaning.Global g array) s = tt
scalar_variable _ s = absurd (let wrong : false ≡ true = s in cc)

pair_local : (b : Agreement) (x : ℕ) (array : Bool) (n : Meaning) → LocalAlike b x array n → VariablePair b (Variable.Local x) (variable_in n)
pair_local b x array (Meaning.Local y other) h = VariablePair.BothLocal x y h.0
pair_local b x array _ h = absurd h

pair_meaning : (b : Agreement) (m n : Meaning) → MeaningAlike b m n → IsVariable n → VariablePair b (variable_in m) (variable_in n)
pair_meaning b (Meaning.Local x array) n h v = pair_local b x array n h
pair_meaning b (Meaning.Global g array) n h v = subst (λ o. VariablePair b (Variable.Global g) (variable_in o)) (sym h) (VariablePair.BothGlobal g)
pair_meaning b _ n h v = absurd (subst IsVariable h v)

pub variable_found : (b : Agreement) (may : Meaning → Bool) (is : (n : Meaning) → may n ≡ true → IsVariable n) (o p : Option Found) (at : ℕ) → FoundAlike b o p → use_faults may p at ≡ [] → VariablePair b (variable_of o) (variable_of p)
variable_found b may is None None at h f = absurd (let wrong = f in cc)
variable_found b may is (Some d) (Some g) at h f = pair_meaning b d.meaning g.meaning h (is g.meaning (not-false (may g.meaning) (not_broken (not (may g.meaning)) at Rule.Kind f)))
variable_found b may is _ _ at h f = absurd h

-- ---- an expression without a call has its value at once

pub quiet_value : (text after globals : Rows) (ds : List Binding) (b : Agreement) (k : ℕ) (e : RawExprTree) → IsAgreement b → in_text b ≡ ds → NamesStand b text after → AreSourceNames e → holds_call e ≡ false → expr_faults (in_tree b) e ≡ [] →
    evaluate text globals (deep.expr_of ds k e) ≡ of_value (value after globals (scope.expr_of (in_tree b) e))
quiet_value text after globals ds b k e agrees same stand source quiet fine = ap (λ names. evaluate text globals (deep.expr_of names k e)) (sym same) ∙ value_alike b text after globals stand k e agrees source quiet fine

module _ (program : ProgramTree) (ns : List ℕ) (f : ℕ) (text : Rows) (ds : List Binding) (gives loop : Bool) where
  pub number_ends : (n : ℕ) → Evaluates program ns f text ds gives loop (RawNumber n)
  number_ends n strict may a k v site s globals names rest placed sound =
      outcome_ends program f text strict (IsLeft v a (RawNumber n) names) NoCall rest globals names (Ok (n % 2 ^ 32)) (record { keeps = keeps_all v names; is = refl })

  pub name_ends : (n : NameTree) → Evaluates program ns f text ds gives loop (RawName n)
  name_ends n strict may a k v site s globals names rest placed sound =
      let Leaf = IsLeft v a (RawName n) names in
      let is = quiet_value text names globals ds a site (RawName n) placed.place.agrees placed.text_names placed.alike sound.source refl sound.left_fine in
      subst (λ e. EndsAs program f text strict Leaf NoCall rest globals names rest e) (sym is)
      (outcome_ends program f text strict Leaf NoCall rest globals names (value names globals (scope.expr_of (in_tree a) (RawName n))) (record { keeps = keeps_all v names; is = refl }))

  pub unary_ends : (op : UnaryOperator) (e : RawExprTree) → Evaluates program ns f text ds gives loop e → Evaluates program ns f text ds gives loop (RawUnary op e)
  unary_ends op e whole strict may a k v site s globals names rest placed sound =
      let Leaf = IsLeft v (with_names k v e a) (RawUnary op (left_of k e)) names in
      then_ends program f text strict Leaf NoCall rest (IsLeft v (with_names k v e a) (left_of k e) names) rest (OperandOf op)
      (λ others later word leaf. outcome_ends program f text strict Leaf NoCall rest others later (Ok (unary_value op word)) (record { keeps = leaf.keeps; is = ap (on_one (unary_value op)) leaf.is }))
      (λ others later trap leaf. outcome_ends program f text strict Leaf NoCall rest others later (Err trap) (record { keeps = leaf.keeps; is = ap (on_one (unary_value op)) leaf.is }))
      (whole false tt a k v site s globals names rest placed (record { source = sound.source; fine = sound.fine; left_fine = sound.left_fine; sites = sound.sites }))

  pub parenthesized_ends : (e : RawExprTree) → Evaluates program ns f text ds gives loop e → Evaluates program ns f text ds gives loop (RawParenthesized e)
  parenthesized_ends e whole strict may a k v site s globals names rest placed sound =
      let Leaf = IsLeft v (with_names k v e a) (RawParenthesized (left_of k e)) names in
      then_ends program f text strict Leaf NoCall rest (IsLeft v (with_names k v e a) (left_of k e) names) rest InParentheses
      (λ others later word leaf. outcome_ends program f text strict Leaf NoCall rest others later (Ok word) (record { keeps = leaf.keeps; is = leaf.is }))
      (λ others later trap leaf. outcome_ends program f text strict Leaf NoCall rest others later (Err trap) (record { keeps = leaf.keeps; is = leaf.is }))
      (whole false tt a k v site s globals names rest placed (record { source = sound.source; fine = sound.fine; left_fine = sound.left_fine; sites = sound.sites }))

  -- ---- an element, by what its name stands for

  module _ (strict : Bool) (v : ℕ) (b : Agreement) (left : RawExprTree) (start : Rows) (stand : (later : Rows) → Keeps v start later → NamesStand b text later) (i : DeepExpr) (rest : List Item) (Leaf : Rows → Rows → Value → Type 0) where
    element_by : {p q : Variable} → VariablePair b p q → ((others later : Rows) (outcome : Value) → Keeps v start later → value later others (scope.element_value q (scope.expr_of (in_tree b) left)) ≡ outcome → Leaf others later outcome) →
        (globals : Rows) (items : List Item) → EndsAs program f text false (IsLeft v b left start) NoCall rest globals start items (evaluate text globals i) → EndsAs program f text strict Leaf NoCall rest globals start items (evaluate text globals (deep.element_value p i))
    element_by (VariablePair.BothLocal x y pair) make globals items h =
        then_ends program f text strict Leaf NoCall rest (IsLeft v b left start) rest (IndexOfLocal x)
        (λ others later word leaf.
        outcome_ends program f text strict Leaf NoCall rest others later (element text x (Ok word))
        (make others later (element text x (Ok word)) leaf.keeps (ap (element later y) leaf.is ∙ ap (λ r. in_range (nat_lt word (length r)) (slice_index r word)) (sym (stand later leaf.keeps x y pair)))))
        (λ others later trap leaf. outcome_ends program f text strict Leaf NoCall rest others later (Err trap) (make others later (Err trap) leaf.keeps (ap (element later y) leaf.is)))
        h
    element_by (VariablePair.BothGlobal g) make globals items h =
        then_ends program f text strict Leaf NoCall rest (IsLeft v b left start) rest (IndexOfGlobal g)
        (λ others later word leaf. outcome_ends program f text strict Leaf NoCall rest others later (element others g (Ok word)) (make others later (element others g (Ok word)) leaf.keeps (ap (element others g) leaf.is)))
        (λ others later trap leaf. outcome_ends program f text strict Leaf NoCall rest others later (Err trap) (make others later (Err trap) leaf.keeps (ap (element others g) leaf.is)))
        h

  pub element_ends : (n : NameTree) (i : RawExprTree) → Evaluates program ns f text ds gives loop i → Evaluates program ns f text ds gives loop (RawElement n i)
  element_ends n i whole strict may a k v site s globals names rest placed sound =
      let b = with_names k v i a in
      let ext = names_extend k v i a in
      let w = v + names_in i in
      let fine = both_none (array_faults (in_tree b) n) (expr_faults (in_tree b) (left_of k i)) sound.left_fine in
      let same : in_text b ≡ ds = extends_text k v w a b ext ∙ placed.text_names in
      let pair = variable_found b is_array array_variable (find n.text (in_text b)) (find n.text (in_tree b)) n.at (found_alike b n.text (extends_agrees k v w a b ext placed.place.agrees) sound.source.0) fine.0 in
      let Leaf = IsLeft v b (RawElement n (left_of k i)) names in
      element_by strict v b (left_of k i) names (later_stands text names ds a b k v w s placed ext) (deep.expr_of ds site i) rest Leaf
      (subst (λ names. VariablePair b (variable_of (find n.text names)) (variable_of (find n.text (in_tree b)))) same pair)
      (λ others later outcome keeps is. record { keeps = keeps; is = is }) globals (items_of ns s (before k i) rest)
      (whole false tt a k v site s globals names rest placed (record { source = sound.source.1; fine = sound.fine; left_fine = fine.1; sites = sound.sites }))
