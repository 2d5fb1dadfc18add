-- One operator and its right operand, if that isn't evaluated in a branch: `&&` and `||` are rewritten as any other.
use Rattle.hoist_rules.proofs.Common.{ℕ, ◌+◌, ◌≡◌, refl, sym, ap, ◌∙◌, Bool, false, not, ◌&&◌, ◌++◌, Infix, RawExprTree, raw_joined, holds_call, one_if, part_or, part_named, left_of, before, branches, operand_left, operand_before, no_left, no_before, Received, then_all}
use Rattle.hoist_rules.proofs.Followed.{then_then}

plain_left_is : (k : ℕ) (op : Infix) (alone : Bool) (l r : RawExprTree) → branches op (holds_call r) ≡ false →
    raw_joined (part_or (holds_call r && not alone) k l) op (left_of (k + one_if (holds_call r && not alone)) r) ≡ operand_left k op alone l r
plain_left_is k (Infix.Binary op) alone l r h = refl
plain_left_is k _ alone l r h = let held : holds_call r ≡ false = h in rw (held, no_left (k + one_if false) r held) refl

plain_before_is : (k : ℕ) (op : Infix) (alone : Bool) (l r : RawExprTree) → branches op (holds_call r) ≡ false →
    part_named (holds_call r && not alone) k l ++ before (k + one_if (holds_call r && not alone)) r ≡ operand_before k op alone l r
plain_before_is k (Infix.Binary op) alone l r h = refl
plain_before_is k _ alone l r h = let held : holds_call r ≡ false = h in rw (held, no_before (k + one_if false) r held) refl

needs : (calling alone b : Bool) (r : RawExprTree) → calling ≡ holds_call r → b ≡ (calling && not alone) → b ≡ (holds_call r && not alone)
needs calling alone b r hc hb = hb ∙ ap (λ x. x && not alone) hc

pub plain_left : (k n : ℕ) (op : Infix) (calling alone b : Bool) (l r x y c : RawExprTree) → calling ≡ holds_call r → branches op calling ≡ false → b ≡ (calling && not alone) →
    x ≡ part_or b k l → n ≡ k + one_if b → y ≡ left_of n r → c ≡ raw_joined x op y → c ≡ operand_left k op alone l r
plain_left k n op calling alone b l r x y c hc h hb hx hn hy e =
    let named = needs calling alone b r hc hb in
    let left : x ≡ part_or (holds_call r && not alone) k l = hx ∙ ap (λ z. part_or z k l) named in
    let right : y ≡ left_of (k + one_if (holds_call r && not alone)) r = hy ∙ ap (λ m. left_of m r) (hn ∙ ap (λ z. k + one_if z) named) in
    e ∙ (λ i. raw_joined (left i) op (right i)) ∙ plain_left_is k op alone l r (ap (branches op) (sym hc) ∙ h)

pub plain_before : (k n : ℕ) (op : Infix) (calling alone b : Bool) (l r : RawExprTree) (s t u : Received) → calling ≡ holds_call r → branches op calling ≡ false → b ≡ (calling && not alone) →
    n ≡ k + one_if b → t ≡ then_all s (part_named b k l) → u ≡ then_all t (before n r) → u ≡ then_all s (operand_before k op alone l r)
plain_before k n op calling alone b l r s t u hc h hb hn ht hu =
    let named = needs calling alone b r hc hb in
    let at : n ≡ k + one_if (holds_call r && not alone) = hn ∙ ap (λ z. k + one_if z) named in
    let first : t ≡ then_all s (part_named (holds_call r && not alone) k l) = ht ∙ ap (λ z. then_all s (part_named z k l)) named in
    hu ∙ (λ i. then_all (first i) (before (at i) r))
    ∙ then_then s (part_named (holds_call r && not alone) k l) (before (k + one_if (holds_call r && not alone)) r)
    ∙ ap (then_all s) (plain_before_is k op alone l r (ap (branches op) (sym hc) ∙ h))
