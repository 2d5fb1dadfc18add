-- An expression in which no call stands has one value in the text and in the rewritten tree.
use Rattle.hoist_meaning.proofs.Common.{ℕ, zero, suc, ◌+◌, ◌≡◌, refl, ap, subst, ◌∙◌, Bool, true, false, not, List, [], ◌++◌, length, Option, Some, None, nat_lt, slice_index, ◌||◌, Ok, Err, row, unary_value, binary_value, Value, value, in_range, element, on_one, on_both, truth, choice, RawExprTree, RawNumber, RawName, RawElement, RawUnary, RawParenthesized, RawBinary, RawLogicalAnd, RawLogicalOr, RawConditional, ExprTree, Meaning, Found, Rule, find, is_scalar, is_array, variable_in, variable_of, use_faults, array_faults, expr_faults, both_none, not_broken, DeepExpr, calls_in, holds_call, AreSourceNames, or_parts, not-false}
use Rattle.scope_rules.specs.Expressions as scope
use Rattle.deep_mean.specs.Evaluation.{Around, IndexOfLocal, IndexOfGlobal, OperandOf, InParentheses, LeftOf, RightOf, LeftOfAnd, LeftOfOr, Decides, ConditionOf, Chosen, Done, of_value, and_then, truth_of, chosen, evaluate}
use Rattle.deep_mean.specs.Naming as deep
use Rattle.hoist_meaning.proofs.Bindings.{Agreement, in_text, in_tree, IsAgreement, NamesStand, LocalAlike, MeaningAlike, FoundAlike, found_alike}

-- ---- one construct over values

then_done : (v : Value) (around : Around) → and_then (of_value v) around Done ≡ of_value v
then_done (Ok word) around = refl
then_done (Err trap) around = refl

then_one : (v : Value) (around : Around) (f : ℕ → ℕ) → and_then (of_value v) around (λ word. Done (f word)) ≡ of_value (on_one f v)
then_one (Ok word) around f = refl
then_one (Err trap) around f = refl

then_both : (l r : Value) (first : Around) (second : ℕ → Around) (f : ℕ → ℕ → ℕ) → and_then (of_value l) first (λ left. and_then (of_value r) (second left) (λ right. Done (f left right))) ≡ of_value (on_both f l r)
then_both (Ok left) (Ok right) first second f = refl
then_both _ _ first second f = refl

then_truth : (v : Value) → and_then (of_value v) Decides (λ word. Done (truth_of word)) ≡ of_value (truth v)
then_truth (Ok zero) = refl
then_truth _ = refl

pub then_and : (l r : Value) (around : Around) → and_then (of_value l) around (λ left. chosen left (and_then (of_value r) Decides (λ right. Done (truth_of right))) (Done 0)) ≡ of_value (choice l (truth r) (Ok 0))
then_and (Ok (suc n)) r around = then_truth r
then_and _ r around = refl

pub then_or : (l r : Value) (around : Around) → and_then (of_value l) around (λ left. chosen left (Done 1) (and_then (of_value r) Decides (λ right. Done (truth_of right)))) ≡ of_value (choice l (Ok 1) (truth r))
then_or (Ok zero) r around = then_truth r
then_or _ r around = refl

pub then_choice : (c a b : Value) (around : Around) → and_then (of_value c) around (λ word. chosen word (and_then (of_value a) Chosen Done) (and_then (of_value b) Chosen Done)) ≡ of_value (choice c a b)
then_choice (Ok zero) a b around = then_done b Chosen
then_choice (Ok (suc n)) a b around = then_done a Chosen
then_choice (Err trap) a b around = refl

then_element : (v : Value) (around : Around) (text tree : List (List ℕ)) (x y : ℕ) → row text x ≡ row tree y → and_then (of_value v) around (λ index. of_value (element text x (Ok index))) ≡ of_value (element tree y v)
then_element (Ok index) around text tree x y e = ap (λ r. of_value (in_range (nat_lt index (length r)) (slice_index r index))) e
then_element (Err trap) around text tree x y e = refl

-- ---- names

module _ (a : Agreement) (text tree globals : List (List ℕ)) (stand : NamesStand a text tree) where
  local_alike : (x : ℕ) (array : Bool) (n : Meaning) → LocalAlike a x array n → is_scalar n ≡ true → evaluate text globals (deep.scalar_value (variable_in (Meaning.Local x array))) ≡ of_value (value tree globals (scope.scalar_value (variable_in n)))
  local_alike x array (Meaning.Local y other) h s = ap (λ r. Done (slice_index r 0)) (stand x y h.0)
  local_alike x array _ h s = absurd h

  scalar_alike : (m n : Meaning) → MeaningAlike a m n → is_scalar n ≡ true → evaluate text globals (deep.scalar_value (variable_in m)) ≡ of_value (value tree globals (scope.scalar_value (variable_in n)))
  scalar_alike (Meaning.Local x array) n h s = local_alike x array n h s
  scalar_alike (Meaning.Global g array) n h s = rw h refl
  scalar_alike _ n h s = let no : false ≡ true = subst (λ k. is_scalar k ≡ true) h s in cc

  scalar_found : (o p : Option Found) (at : ℕ) → FoundAlike a o p → use_faults is_scalar p at ≡ [] → evaluate text globals (deep.scalar_value (variable_of o)) ≡ of_value (value tree globals (scope.scalar_value (variable_of p)))
  scalar_found None None at h f = cc
  scalar_found (Some d) (Some g) at h f = scalar_alike d.meaning g.meaning h (not-false (is_scalar g.meaning) (not_broken (not (is_scalar g.meaning)) at Rule.Kind f))
  scalar_found _ _ at h f = absurd h

  module _ (i : DeepExpr) (j : ExprTree) (same : evaluate text globals i ≡ of_value (value tree globals j)) where
    local_element : (x : ℕ) (array : Bool) (n : Meaning) → LocalAlike a x array n → evaluate text globals (deep.element_value (variable_in (Meaning.Local x array)) i) ≡ of_value (value tree globals (scope.element_value (variable_in n) j))
    local_element x array (Meaning.Local y other) h =
        ap (λ e. and_then e (IndexOfLocal x) (λ index. of_value (element text x (Ok index)))) same ∙ then_element (value tree globals j) (IndexOfLocal x) text tree x y (stand x y h.0)
    local_element x array _ h = absurd h

    array_alike : (m n : Meaning) → MeaningAlike a m n → is_array n ≡ true → evaluate text globals (deep.element_value (variable_in m) i) ≡ of_value (value tree globals (scope.element_value (variable_in n) j))
    array_alike (Meaning.Local x array) n h s = local_element x array n h
    array_alike (Meaning.Global g array) n h s =
        rw h (ap (λ e. and_then e (IndexOfGlobal g) (λ index. of_value (element globals g (Ok index)))) same ∙ then_element (value tree globals j) (IndexOfGlobal g) globals globals g g refl)
    array_alike _ n h s = let no : false ≡ true = subst (λ k. is_array k ≡ true) h s in cc

    array_found : (o p : Option Found) (at : ℕ) → FoundAlike a o p → use_faults is_array p at ≡ [] → evaluate text globals (deep.element_value (variable_of o) i) ≡ of_value (value tree globals (scope.element_value (variable_of p) j))
    array_found None None at h f = cc
    array_found (Some d) (Some g) at h f = array_alike d.meaning g.meaning h (not-false (is_array g.meaning) (not_broken (not (is_array g.meaning)) at Rule.Kind f))
    array_found _ _ at h f = absurd h

  -- ---- expressions

  pub value_alike : (k : ℕ) (e : RawExprTree) → IsAgreement a → AreSourceNames e → holds_call e ≡ false → expr_faults (in_tree a) e ≡ []
      → evaluate text globals (deep.expr_of (in_text a) k e) ≡ of_value (value tree globals (scope.expr_of (in_tree a) e))
  value_alike k (RawNumber v) g s c f = refl
  value_alike k (RawName n) g s c f = scalar_found (find n.text (in_text a)) (find n.text (in_tree a)) n.at (found_alike a n.text g s) f
  value_alike k (RawElement n i) g s c f =
      let fs = both_none (array_faults (in_tree a) n) (expr_faults (in_tree a) i) f in
      array_found (deep.expr_of (in_text a) k i) (scope.expr_of (in_tree a) i) (value_alike k i g s.1 c fs.1) (find n.text (in_text a)) (find n.text (in_tree a)) n.at (found_alike a n.text g s.0) fs.0
  value_alike k (RawUnary op e) g s c f =
      ap (λ d. and_then d (OperandOf op) (λ word. Done (unary_value op word))) (value_alike k e g s c f) ∙ then_one (value tree globals (scope.expr_of (in_tree a) e)) (OperandOf op) (unary_value op)
  value_alike k (RawParenthesized e) g s c f =
      ap (λ d. and_then d InParentheses Done) (value_alike k e g s c f) ∙ then_done (value tree globals (scope.expr_of (in_tree a) e)) InParentheses
  value_alike k (RawBinary op l r) g s c f =
      let cs = or_parts (holds_call l) (holds_call r) c in
      let fs = both_none (expr_faults (in_tree a) l) (expr_faults (in_tree a) r) f in
      let right = deep.expr_of (in_text a) (k + calls_in l) r in
      let first = value_alike k l g s.0 cs.0 fs.0 in
      let second = value_alike (k + calls_in l) r g s.1 cs.1 fs.1 in
      (λ i. and_then (first i) (LeftOf op right) (λ x. and_then (second i) (RightOf op x) (λ y. Done (binary_value op x y))))
      ∙ then_both (value tree globals (scope.expr_of (in_tree a) l)) (value tree globals (scope.expr_of (in_tree a) r)) (LeftOf op right) (RightOf op) (binary_value op)
  value_alike k (RawLogicalAnd l r) g s c f =
      let cs = or_parts (holds_call l) (holds_call r) c in
      let fs = both_none (expr_faults (in_tree a) l) (expr_faults (in_tree a) r) f in
      let right = deep.expr_of (in_text a) (k + calls_in l) r in
      let first = value_alike k l g s.0 cs.0 fs.0 in
      let second = value_alike (k + calls_in l) r g s.1 cs.1 fs.1 in
      (λ i. and_then (first i) (LeftOfAnd right) (λ x. chosen x (and_then (second i) Decides (λ y. Done (truth_of y))) (Done 0)))
      ∙ then_and (value tree globals (scope.expr_of (in_tree a) l)) (value tree globals (scope.expr_of (in_tree a) r)) (LeftOfAnd right)
  value_alike k (RawLogicalOr l r) g s c f =
      let cs = or_parts (holds_call l) (holds_call r) c in
      let fs = both_none (expr_faults (in_tree a) l) (expr_faults (in_tree a) r) f in
      let right = deep.expr_of (in_text a) (k + calls_in l) r in
      let first = value_alike k l g s.0 cs.0 fs.0 in
      let second = value_alike (k + calls_in l) r g s.1 cs.1 fs.1 in
      (λ i. and_then (first i) (LeftOfOr right) (λ x. chosen x (Done 1) (and_then (second i) Decides (λ y. Done (truth_of y)))))
      ∙ then_or (value tree globals (scope.expr_of (in_tree a) l)) (value tree globals (scope.expr_of (in_tree a) r)) (LeftOfOr right)
  value_alike k (RawConditional d x y) g s c f =
      let cs = or_parts (holds_call d) (holds_call x || holds_call y) c in
      let cxy = or_parts (holds_call x) (holds_call y) cs.1 in
      let fs = both_none (expr_faults (in_tree a) d ++ expr_faults (in_tree a) x) (expr_faults (in_tree a) y) f in
      let fdx = both_none (expr_faults (in_tree a) d) (expr_faults (in_tree a) x) fs.0 in
      let kx = k + calls_in d in
      let ky = k + calls_in d + calls_in x in
      let condition = value_alike k d g s.0 cs.0 fdx.0 in
      let first = value_alike kx x g s.1 cxy.0 fdx.1 in
      let second = value_alike ky y g s.2 cxy.1 fs.1 in
      let around = ConditionOf (deep.expr_of (in_text a) kx x) (deep.expr_of (in_text a) ky y) in
      (λ i. and_then (condition i) around (λ word. chosen word (and_then (first i) Chosen Done) (and_then (second i) Chosen Done)))
      ∙ then_choice (value tree globals (scope.expr_of (in_tree a) d)) (value tree globals (scope.expr_of (in_tree a) x)) (value tree globals (scope.expr_of (in_tree a) y)) around
  value_alike k _ g s c f = cc
