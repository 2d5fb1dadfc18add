-- The arguments of a call, rewritten one after another.
use Rattle.std.proofs.lemmas.Bool.Decides.{nat_tests}
use Rattle.hoist_rules.proofs.Common.{ℕ, ◌+◌, ◌≡◌, refl, sym, ap, ◌∙◌, Bool, true, false, ◌||◌, nat_lt, List, [], ◌∷◌, ◌++◌, arith, RawExprTree, RawExprTrees, NoExprs, And, raw_arguments, holds_call, hold_call, one_if, arguments_names, arguments_left, arguments_before, calls_among, passed_left, passed_before, passed_after, Received, then_all}
use Rattle.hoist_rules.proofs.Followed.{then_then}

-- expressions, and then arguments
abbrev pub then_trees : List RawExprTree → RawExprTrees → RawExprTrees
then_trees [] es = es
then_trees (x ∷ xs) es = And x (then_trees xs es)

then_last : (xs : List RawExprTree) (x : RawExprTree) (es : RawExprTrees) → then_trees (xs ++ x ∷ []) es ≡ then_trees xs (And x es)
then_last [] x es = refl
then_last (y ∷ xs) x es = ap (And y) (then_last xs x es)

then_none : (xs : List RawExprTree) → then_trees xs NoExprs ≡ raw_arguments xs
then_none [] = refl
then_none (x ∷ xs) = ap (And x) (then_none xs)

-- ---- whether a later argument contains a call, by the number of those that do

some_or : (b h : Bool) (n : ℕ) → nat_lt 0 n ≡ h → nat_lt 0 (one_if b + n) ≡ (b || h)
some_or true h n e = grind (arith, nat_tests)
some_or false h n e = let bare : 0 + n ≡ n = omega arith in ap (λ m. nat_lt 0 m) bare ∙ e

pub some_hold : (es : RawExprTrees) → nat_lt 0 (calls_among es) ≡ hold_call es
some_hold NoExprs = refl
some_hold (And e es) = some_or (holds_call e) (hold_call es) (calls_among es) (some_hold es)

-- ---- one more argument

one_left : (stays : Bool) (k : ℕ) (e : RawExprTree) (es : RawExprTrees) →
    arguments_left stays k (And e es) ≡ And (passed_left stays (hold_call es) k e) (arguments_left false (passed_after stays (hold_call es) k e) es)
one_left true k e es = refl
one_left false k e es = refl

one_before : (stays : Bool) (k : ℕ) (e : RawExprTree) (es : RawExprTrees) →
    arguments_before stays k (And e es) ≡ passed_before stays (hold_call es) k e ++ arguments_before false (passed_after stays (hold_call es) k e) es
one_before true k e es = refl
one_before false k e es = refl

one_after : (stays : Bool) (k : ℕ) (e : RawExprTree) (es : RawExprTrees) → k + arguments_names stays (And e es) ≡ passed_after stays (hold_call es) k e + arguments_names false es
one_after true k e es = refl
one_after false k e es = omega arith

-- ---- a turn over the arguments, where `later` says whether one of the rest contains a call

pub turn_left : (stays later : Bool) (k n : ℕ) (xs : List RawExprTree) (x e : RawExprTree) (es whole : RawExprTrees) →
    later ≡ hold_call es → x ≡ passed_left stays later k e → n ≡ passed_after stays later k e →
    then_trees xs (arguments_left stays k (And e es)) ≡ whole → then_trees (xs ++ x ∷ []) (arguments_left false n es) ≡ whole
turn_left stays later k n xs x e es whole hl hx hn h =
    then_last xs x (arguments_left false n es)
    ∙ (λ i. then_trees xs (And (hx i) (arguments_left false (hn i) es)))
    ∙ ap (λ b. then_trees xs (And (passed_left stays b k e) (arguments_left false (passed_after stays b k e) es))) hl
    ∙ ap (then_trees xs) (sym (one_left stays k e es))
    ∙ h

pub turn_before : (stays later : Bool) (k n : ℕ) (e : RawExprTree) (es : RawExprTrees) (s t whole : Received) →
    later ≡ hold_call es → t ≡ then_all s (passed_before stays later k e) → n ≡ passed_after stays later k e →
    then_all s (arguments_before stays k (And e es)) ≡ whole → then_all t (arguments_before false n es) ≡ whole
turn_before stays later k n e es s t whole hl ht hn h =
    (λ i. then_all (ht i) (arguments_before false (hn i) es))
    ∙ then_then s (passed_before stays later k e) (arguments_before false (passed_after stays later k e) es)
    ∙ ap (λ b. then_all s (passed_before stays b k e ++ arguments_before false (passed_after stays b k e) es)) hl
    ∙ ap (then_all s) (sym (one_before stays k e es))
    ∙ h

pub turn_after : (stays later : Bool) (k n whole : ℕ) (e : RawExprTree) (es : RawExprTrees) →
    later ≡ hold_call es → n ≡ passed_after stays later k e → k + arguments_names stays (And e es) ≡ whole → n + arguments_names false es ≡ whole
turn_after stays later k n whole e es hl hn h =
    (λ i. hn i + arguments_names false es) ∙ ap (λ b. passed_after stays b k e + arguments_names false es) hl ∙ sym (one_after stays k e es) ∙ h

-- ---- and after the last

none_left : (stays : Bool) (k : ℕ) → arguments_left stays k NoExprs ≡ NoExprs
none_left true k = refl
none_left false k = refl

pub done_left : (stays : Bool) (k : ℕ) (xs : List RawExprTree) (es whole : RawExprTrees) → es ≡ NoExprs → then_trees xs (arguments_left stays k es) ≡ whole → raw_arguments xs ≡ whole
done_left stays k xs es whole e h =
    sym (then_none xs) ∙ ap (then_trees xs) (sym (none_left stays k)) ∙ ap (λ x. then_trees xs (arguments_left stays k x)) (sym e) ∙ h
