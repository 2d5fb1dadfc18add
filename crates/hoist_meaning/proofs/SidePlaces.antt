-- Where the rewritten tree stands after what goes before a right side, and before an element that is set.
use Rattle.hoist_meaning.proofs.Common.{ℕ, ◌≡◌, ◌+◌, ◌≤◌, refl, ◌∙◌, Bool, true, false, [], ◌++◌, arith, RawExprTree, RawExprTrees, RawNumber, RawName, RawElement, RawUnary, RawParenthesized, RawBinary, RawLogicalAnd, RawLogicalOr, RawConditional, RawCall, RawTableCall, NoExprs, And, Spot, holds_call, hold_call, holds_nested, is_named, is_spawn, one_if, names_in, part_after, part_named, left_of, before, arguments_before, value_names, value_before, table_before, no_before, or_parts}
use Rattle.hoist_meaning.proofs.Bindings.{Agreement}
use Rattle.hoist_meaning.proofs.Items.{after}
use Rattle.hoist_meaning.proofs.Spots.{StandsAt, as_many, with_part, with_names, with_argument_names, before_stands, arguments_stand, part_leaves}
use Rattle.hoist_meaning.proofs.Extends.{Extends, extends_from, names_extend, arguments_extend, part_and, no_more_names, no_more_argument_names}
use Rattle.hoist_meaning.proofs.Premises.{with_value_names, with_element_names}
use Rattle.hoist_meaning.proofs.ArgumentEnds.{no_arguments_before}

-- after the index of a table and the argument
pub table_place : (i e : RawExprTree) (a : Agreement) (k v : ℕ) (s : Spot) → StandsAt a v s → v + (names_in i + one_if (is_named (holds_call e) i) + names_in e) ≤ 65536 →
    StandsAt (with_names (part_after k (holds_call e) i) (part_after v (holds_call e) i) e (with_part (is_named (holds_call e) i) (k + names_in i) (v + names_in i) (with_names k v i a))) (part_after v (holds_call e) i + names_in e) (after s (table_before k i e))
table_place i e a k v s place few =
    let k1 = part_after k (holds_call e) i in
    let v1 = part_after v (holds_call e) i in
    let c = with_part (is_named (holds_call e) i) (k + names_in i) (v + names_in i) (with_names k v i a) in
    part_leaves (holds_call e) a (with_names k1 v1 e c) k v (v1 + names_in e) i s (before k1 e) (omega (arith, few)) (before_stands a k v i s place (omega (arith, few))) (λ t stand. before_stands c k1 v1 e t stand (omega (arith, few)))

-- after what goes before a right side
pub value_place : (a : Agreement) (k v : ℕ) (e : RawExprTree) (s : Spot) → StandsAt a v s → v + value_names e ≤ 65536 → StandsAt (with_value_names k v e a) (v + value_names e) (after s (value_before k e))
value_place a k v (RawCall n es) s place few = arguments_stand a k v (is_spawn n) es s place few
value_place a k v (RawTableCall n i e) s place few =
    as_many (with_value_names k v (RawTableCall n i e) a) (part_after v (holds_call e) i + names_in e) (v + value_names (RawTableCall n i e)) (after s (table_before k i e)) (omega arith) (table_place i e a k v s place (omega (arith, few)))
value_place a k v (RawNumber w) s place few = before_stands a k v (RawNumber w) s place few
value_place a k v (RawName n) s place few = before_stands a k v (RawName n) s place few
value_place a k v (RawElement n i) s place few = before_stands a k v (RawElement n i) s place few
value_place a k v (RawUnary op e) s place few = before_stands a k v (RawUnary op e) s place few
value_place a k v (RawParenthesized e) s place few = before_stands a k v (RawParenthesized e) s place few
value_place a k v (RawBinary op l r) s place few = before_stands a k v (RawBinary op l r) s place few
value_place a k v (RawLogicalAnd l r) s place few = before_stands a k v (RawLogicalAnd l r) s place few
value_place a k v (RawLogicalOr l r) s place few = before_stands a k v (RawLogicalOr l r) s place few
value_place a k v (RawConditional c x y) s place few = before_stands a k v (RawConditional c x y) s place few

pub value_extend : (k v : ℕ) (e : RawExprTree) (a : Agreement) → Extends k v (v + value_names e) a (with_value_names k v e a)
value_extend k v (RawCall n es) a = arguments_extend (is_spawn n) k v es a
value_extend k v (RawTableCall n i e) a =
    let c = with_part (is_named (holds_call e) i) (k + names_in i) (v + names_in i) (with_names k v i a) in
    let k1 = part_after k (holds_call e) i in
    let v1 = part_after v (holds_call e) i in
    let w = v + value_names (RawTableCall n i e) in
    part_and (holds_call e) k v w i a (with_names k1 v1 e c) (omega arith) (names_extend k v i a) (extends_from k1 v1 k1 v1 (v1 + names_in e) w c (with_names k1 v1 e c) (omega arith) (omega arith) (omega arith) (names_extend k1 v1 e c))
value_extend k v (RawNumber w) a = names_extend k v (RawNumber w) a
value_extend k v (RawName n) a = names_extend k v (RawName n) a
value_extend k v (RawElement n i) a = names_extend k v (RawElement n i) a
value_extend k v (RawUnary op e) a = names_extend k v (RawUnary op e) a
value_extend k v (RawParenthesized e) a = names_extend k v (RawParenthesized e) a
value_extend k v (RawBinary op l r) a = names_extend k v (RawBinary op l r) a
value_extend k v (RawLogicalAnd l r) a = names_extend k v (RawLogicalAnd l r) a
value_extend k v (RawLogicalOr l r) a = names_extend k v (RawLogicalOr l r) a
value_extend k v (RawConditional c x y) a = names_extend k v (RawConditional c x y) a

-- after what goes before an element that is set
pub element_place : (a : Agreement) (k v : ℕ) (i e : RawExprTree) (s : Spot) → StandsAt a v s → v + (part_after 0 (holds_nested e) i + value_names e) ≤ 65536 →
    StandsAt (with_element_names k v i e a) (v + (part_after 0 (holds_nested e) i + value_names e)) (after s (before k i ++ part_named (is_named (holds_nested e) i) (k + names_in i) (left_of k i) ++ value_before (part_after k (holds_nested e) i) e))
element_place a k v i e s place few =
    let later = holds_nested e in
    let k1 = part_after k later i in
    let v1 = part_after v later i in
    let c = with_part (is_named later i) (k + names_in i) (v + names_in i) (with_names k v i a) in
    part_leaves later a (with_value_names k1 v1 e c) k v (v + (part_after 0 later i + value_names e)) i s (value_before k1 e) (omega (arith, few)) (before_stands a k v i s place (omega (arith, few)))
    (λ t stand. as_many (with_value_names k1 v1 e c) (v1 + value_names e) (v + (part_after 0 later i + value_names e)) (after t (value_before k1 e)) (omega arith) (value_place c k1 v1 e t stand (omega (arith, few))))

-- ---- a right side in which no call is nested adds nothing

quiet_names : (stays : Bool) (k v : ℕ) (es : RawExprTrees) (a : Agreement) → hold_call es ≡ false → with_argument_names stays k v es a ≡ a
quiet_names stays k v NoExprs a h = refl
quiet_names true k v (And x es) a h = no_more_argument_names k v es a (or_parts (holds_call x) (hold_call es) h).1
quiet_names false k v (And x es) a h = no_more_argument_names k v (And x es) a h

pub no_value_names : (k v : ℕ) (e : RawExprTree) (a : Agreement) → holds_nested e ≡ false → with_value_names k v e a ≡ a
no_value_names k v (RawCall n es) a h = quiet_names (is_spawn n) k v es a h
no_value_names k v (RawTableCall n i e) a h =
    let two = or_parts (holds_call i) (holds_call e) h in
    let q = two.1 in
    (λ j. with_names (part_after k (q j) i) (part_after v (q j) i) e (with_part (is_named (q j) i) (k + names_in i) (v + names_in i) (with_names k v i a)))
    ∙ no_more_names (part_after k false i) (part_after v false i) e (with_names k v i a) q ∙ no_more_names k v i a two.0
no_value_names k v (RawElement n i) a h = no_more_names k v (RawElement n i) a h
no_value_names k v (RawUnary op e) a h = no_more_names k v (RawUnary op e) a h
no_value_names k v (RawParenthesized e) a h = no_more_names k v (RawParenthesized e) a h
no_value_names k v (RawBinary op l r) a h = no_more_names k v (RawBinary op l r) a h
no_value_names k v (RawLogicalAnd l r) a h = no_more_names k v (RawLogicalAnd l r) a h
no_value_names k v (RawLogicalOr l r) a h = no_more_names k v (RawLogicalOr l r) a h
no_value_names k v (RawConditional c x y) a h = no_more_names k v (RawConditional c x y) a h
no_value_names k v _ a h = refl

quiet_before : (stays : Bool) (k : ℕ) (es : RawExprTrees) → hold_call es ≡ false → arguments_before stays k es ≡ []
quiet_before stays k NoExprs h = refl
quiet_before true k (And x es) h = no_arguments_before k es (or_parts (holds_call x) (hold_call es) h).1
quiet_before false k (And x es) h = no_arguments_before k (And x es) h

pub no_value_before : (k : ℕ) (e : RawExprTree) → holds_nested e ≡ false → value_before k e ≡ []
no_value_before k (RawCall n es) h = quiet_before (is_spawn n) k es h
no_value_before k (RawTableCall n i e) h =
    let two = or_parts (holds_call i) (holds_call e) h in
    let q = two.1 in
    let first = no_before k i two.0 in
    (λ j. first j ++ part_named (is_named (q j) i) (k + names_in i) (left_of k i) ++ before (part_after k (q j) i) e) ∙ no_before (part_after k false i) e q
no_value_before k (RawElement n i) h = no_before k (RawElement n i) h
no_value_before k (RawUnary op e) h = no_before k (RawUnary op e) h
no_value_before k (RawParenthesized e) h = no_before k (RawParenthesized e) h
no_value_before k (RawBinary op l r) h = no_before k (RawBinary op l r) h
no_value_before k (RawLogicalAnd l r) h = no_before k (RawLogicalAnd l r) h
no_value_before k (RawLogicalOr l r) h = no_before k (RawLogicalOr l r) h
no_value_before k (RawConditional c x y) h = no_before k (RawConditional c x y) h
no_value_before k _ h = refl
