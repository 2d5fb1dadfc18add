-- A declaration, an assignment or a call in which each call is whole stays as it is: so do the parts in the parentheses of a `for`.
use Rattle.hoist_parts.proofs.Common.{ℕ, ◌≡◌, refl, ap, Bool, true, false, [], RawExprTree, RawExprTrees, RawElement, RawUnary, RawParenthesized, RawBinary, RawLogicalAnd, RawLogicalOr, RawConditional, RawCall, RawTableCall, NoExprs, And, RawSimpleTree, RawDeclareWith, RawSet, RawSetElement, RawCalling, RawTableCalling, HasNoCall, HaveNoCall, IsValueWhole, IsSimpleWhole, holds_call, hold_call, holds_nested, is_spawn, part_after, arguments_left, arguments_before, value_left, value_before, simple_left, simple_before}
use Rattle.hoist_parts.proofs.NoCalls.{no_left, no_before}

pub held_not : (e : RawExprTree) → HasNoCall e → holds_call e ≡ false
held_not (RawElement n i) h = held_not i h
held_not (RawUnary op e) h = held_not e h
held_not (RawParenthesized e) h = held_not e h
held_not (RawBinary op l r) h = rw (held_not l h.0, held_not r h.1) refl
held_not (RawLogicalAnd l r) h = rw (held_not l h.0, held_not r h.1) refl
held_not (RawLogicalOr l r) h = rw (held_not l h.0, held_not r h.1) refl
held_not (RawConditional c a b) h = rw (held_not c h.0, held_not a h.1, held_not b h.2) refl
held_not (RawCall n es) h = absurd h
held_not (RawTableCall n i e) h = absurd h
held_not _ h = refl

pub all_held_not : (es : RawExprTrees) → HaveNoCall es → hold_call es ≡ false
all_held_not NoExprs h = refl
all_held_not (And e es) h = rw (held_not e h.0, all_held_not es h.1) refl

arguments_kept : (stays : Bool) (k : ℕ) (es : RawExprTrees) → HaveNoCall es → arguments_left stays k es ≡ es
arguments_kept stays k NoExprs h = refl
arguments_kept true k (And e es) h = rw (held_not e h.0, arguments_kept false k es h.1) refl
arguments_kept false k (And e es) h = rw (all_held_not es h.1, no_left k e (held_not e h.0), arguments_kept false (part_after k false e) es h.1) refl

no_arguments_before : (stays : Bool) (k : ℕ) (es : RawExprTrees) → HaveNoCall es → arguments_before stays k es ≡ []
no_arguments_before stays k NoExprs h = refl
no_arguments_before true k (And e es) h = no_arguments_before false k es h.1
no_arguments_before false k (And e es) h = rw (all_held_not es h.1, no_before k e (held_not e h.0), no_arguments_before false (part_after k false e) es h.1) refl

value_held : (v : RawExprTree) → IsValueWhole v → holds_nested v ≡ false
value_held (RawElement n i) h = held_not (RawElement n i) h
value_held (RawUnary op e) h = held_not (RawUnary op e) h
value_held (RawParenthesized e) h = held_not (RawParenthesized e) h
value_held (RawBinary op l r) h = held_not (RawBinary op l r) h
value_held (RawLogicalAnd l r) h = held_not (RawLogicalAnd l r) h
value_held (RawLogicalOr l r) h = held_not (RawLogicalOr l r) h
value_held (RawConditional c a b) h = held_not (RawConditional c a b) h
value_held (RawCall n es) h = all_held_not es h
value_held (RawTableCall n i e) h = rw (held_not i h.0, held_not e h.1) refl
value_held _ h = refl

pub value_kept : (k : ℕ) (v : RawExprTree) → IsValueWhole v → value_left k v ≡ v
value_kept k (RawElement n i) h = no_left k (RawElement n i) (held_not (RawElement n i) h)
value_kept k (RawUnary op e) h = no_left k (RawUnary op e) (held_not (RawUnary op e) h)
value_kept k (RawParenthesized e) h = no_left k (RawParenthesized e) (held_not (RawParenthesized e) h)
value_kept k (RawBinary op l r) h = no_left k (RawBinary op l r) (held_not (RawBinary op l r) h)
value_kept k (RawLogicalAnd l r) h = no_left k (RawLogicalAnd l r) (held_not (RawLogicalAnd l r) h)
value_kept k (RawLogicalOr l r) h = no_left k (RawLogicalOr l r) (held_not (RawLogicalOr l r) h)
value_kept k (RawConditional c a b) h = no_left k (RawConditional c a b) (held_not (RawConditional c a b) h)
value_kept k (RawCall n es) h = ap (RawCall n) (arguments_kept (is_spawn n) k es h)
value_kept k (RawTableCall n i e) h = rw (held_not e h.1, no_left k i (held_not i h.0), no_left (part_after k false i) e (held_not e h.1)) refl
value_kept k _ h = refl

pub no_value_before : (k : ℕ) (v : RawExprTree) → IsValueWhole v → value_before k v ≡ []
no_value_before k (RawElement n i) h = no_before k (RawElement n i) (held_not (RawElement n i) h)
no_value_before k (RawUnary op e) h = no_before k (RawUnary op e) (held_not (RawUnary op e) h)
no_value_before k (RawParenthesized e) h = no_before k (RawParenthesized e) (held_not (RawParenthesized e) h)
no_value_before k (RawBinary op l r) h = no_before k (RawBinary op l r) (held_not (RawBinary op l r) h)
no_value_before k (RawLogicalAnd l r) h = no_before k (RawLogicalAnd l r) (held_not (RawLogicalAnd l r) h)
no_value_before k (RawLogicalOr l r) h = no_before k (RawLogicalOr l r) (held_not (RawLogicalOr l r) h)
no_value_before k (RawConditional c a b) h = no_before k (RawConditional c a b) (held_not (RawConditional c a b) h)
no_value_before k (RawCall n es) h = no_arguments_before (is_spawn n) k es h
no_value_before k (RawTableCall n i e) h = rw (held_not e h.1, no_before k i (held_not i h.0), no_before (part_after k false i) e (held_not e h.1)) refl
no_value_before k _ h = refl

pub simple_kept : (k : ℕ) (s : RawSimpleTree) → IsSimpleWhole s → simple_left k s ≡ s
simple_kept k (RawDeclareWith n v) h = ap (RawDeclareWith n) (value_kept k v h)
simple_kept k (RawSet n v) h = ap (RawSet n) (value_kept k v h)
simple_kept k (RawSetElement n i v) h = rw (value_held v h.1, no_left k i (held_not i h.0), value_kept (part_after k false i) v h.1) refl
simple_kept k (RawCalling n es) h = ap (RawCalling n) (arguments_kept (is_spawn n) k es h)
simple_kept k (RawTableCalling n i e) h = rw (held_not e h.1, no_left k i (held_not i h.0), no_left (part_after k false i) e (held_not e h.1)) refl
simple_kept k _ h = refl

pub no_simple_before : (k : ℕ) (s : RawSimpleTree) → IsSimpleWhole s → simple_before k s ≡ []
no_simple_before k (RawDeclareWith n v) h = no_value_before k v h
no_simple_before k (RawSet n v) h = no_value_before k v h
no_simple_before k (RawSetElement n i v) h = rw (value_held v h.1, no_before k i (held_not i h.0), no_value_before (part_after k false i) v h.1) refl
no_simple_before k (RawCalling n es) h = no_arguments_before (is_spawn n) k es h
no_simple_before k (RawTableCalling n i e) h = rw (held_not e h.1, no_before k i (held_not i h.0), no_before (part_after k false i) e (held_not e h.1)) refl
no_simple_before k _ h = refl
