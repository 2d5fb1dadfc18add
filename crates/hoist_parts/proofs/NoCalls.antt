-- An expression in which no call stands stays as it is: nothing goes before it, and it takes no new name.
use Rattle.hoist_parts.proofs.Common.{ℕ, ◌≡◌, refl, ap, Bool, true, false, ◌||◌, [], RawExprTree, RawElement, RawUnary, RawParenthesized, RawBinary, RawLogicalAnd, RawLogicalOr, RawConditional, RawCall, RawTableCall, holds_call, names_in, part_after, left_of, before}

pub or_left : (a b : Bool) → (a || b) ≡ false → a ≡ false
or_left true b h = h
or_left false b h = refl

pub or_right : (a b : Bool) → (a || b) ≡ false → b ≡ false
or_right true b h = cc
or_right false b h = h

pub no_names : (e : RawExprTree) → holds_call e ≡ false → names_in e ≡ 0
no_names (RawElement n i) h = no_names i h
no_names (RawUnary op e) h = no_names e h
no_names (RawParenthesized e) h = no_names e h
no_names (RawBinary op l r) h = let hr = or_right (holds_call l) (holds_call r) h in rw (hr, no_names l (or_left (holds_call l) (holds_call r) h), no_names r hr) refl
no_names (RawLogicalAnd l r) h = let hr = or_right (holds_call l) (holds_call r) h in rw (hr, no_names l (or_left (holds_call l) (holds_call r) h), no_names r hr) refl
no_names (RawLogicalOr l r) h = let hr = or_right (holds_call l) (holds_call r) h in rw (hr, no_names l (or_left (holds_call l) (holds_call r) h), no_names r hr) refl
no_names (RawConditional c a b) h =
    let hab = or_right (holds_call c) (holds_call a || holds_call b) h in
    let ha = or_left (holds_call a) (holds_call b) hab in
    let hb = or_right (holds_call a) (holds_call b) hab in
    rw (ha, hb, no_names c (or_left (holds_call c) (holds_call a || holds_call b) h), no_names a ha, no_names b hb) refl
no_names (RawCall n es) h = cc
no_names (RawTableCall n i e) h = cc
no_names _ h = refl

pub no_left : (k : ℕ) (e : RawExprTree) → holds_call e ≡ false → left_of k e ≡ e
no_left k (RawElement n i) h = ap (RawElement n) (no_left k i h)
no_left k (RawUnary op e) h = ap (RawUnary op) (no_left k e h)
no_left k (RawParenthesized e) h = ap RawParenthesized (no_left k e h)
no_left k (RawBinary op l r) h =
    let hr = or_right (holds_call l) (holds_call r) h in
    rw (hr, no_left k l (or_left (holds_call l) (holds_call r) h), no_left (part_after k false l) r hr) refl
no_left k (RawLogicalAnd l r) h = let hr = or_right (holds_call l) (holds_call r) h in rw (hr, no_left k l (or_left (holds_call l) (holds_call r) h)) refl
no_left k (RawLogicalOr l r) h = let hr = or_right (holds_call l) (holds_call r) h in rw (hr, no_left k l (or_left (holds_call l) (holds_call r) h)) refl
no_left k (RawConditional c a b) h = rw (or_right (holds_call c) (holds_call a || holds_call b) h, no_left k c (or_left (holds_call c) (holds_call a || holds_call b) h)) refl
no_left k (RawCall n es) h = cc
no_left k (RawTableCall n i e) h = cc
no_left k _ h = refl

pub no_before : (k : ℕ) (e : RawExprTree) → holds_call e ≡ false → before k e ≡ []
no_before k (RawElement n i) h = no_before k i h
no_before k (RawUnary op e) h = no_before k e h
no_before k (RawParenthesized e) h = no_before k e h
no_before k (RawBinary op l r) h =
    let hr = or_right (holds_call l) (holds_call r) h in
    rw (hr, no_before k l (or_left (holds_call l) (holds_call r) h), no_before (part_after k false l) r hr) refl
no_before k (RawLogicalAnd l r) h = let hr = or_right (holds_call l) (holds_call r) h in rw (hr, no_before k l (or_left (holds_call l) (holds_call r) h)) refl
no_before k (RawLogicalOr l r) h = let hr = or_right (holds_call l) (holds_call r) h in rw (hr, no_before k l (or_left (holds_call l) (holds_call r) h)) refl
no_before k (RawConditional c a b) h = rw (or_right (holds_call c) (holds_call a || holds_call b) h, no_before k c (or_left (holds_call c) (holds_call a || holds_call b) h)) refl
no_before k (RawCall n es) h = cc
no_before k (RawTableCall n i e) h = cc
no_before k _ h = refl
