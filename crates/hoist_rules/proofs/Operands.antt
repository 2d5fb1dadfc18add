-- The operators of a chain, rewritten one after another from the left.
use Rattle.hoist_rules.proofs.Common.{ℕ, ◌+◌, ◌≡◌, refl, sym, ap, ◌∙◌, Bool, false, not, ◌&&◌, List, [], ◌∷◌, ◌++◌, map, append_assoc, append-nil, arith, Infix, RawExpr, RawExprTree, raw_joined, raw_chained, raw_operand_tree, holds_call, is_left_alone, one_if, names_in, part_named, left_of, before, operand_trees, operand_left, operand_before, operand_after, operands_left, operands_before, operands_after, joined_alone, Received, then_all}
use Rattle.hoist_rules.proofs.Followed.{then_then}

pub operands_seen : (ps : List (Infix × RawExpr)) → operand_trees ps ≡ map raw_operand_tree ps
operands_seen [] = refl
operands_seen (p ∷ ps) = ap (λ qs. raw_operand_tree p ∷ qs) (operands_seen ps)

-- ---- one operator

joined_left : (k : ℕ) (l : RawExprTree) (op : Infix) (r : RawExprTree) → left_of k (raw_joined l op r) ≡ operand_left (k + names_in l) op (is_left_alone l) (left_of k l) r
joined_left k l (Infix.Binary op) r = refl
joined_left k l _ r = refl

joined_before : (k : ℕ) (l : RawExprTree) (op : Infix) (r : RawExprTree) → before k (raw_joined l op r) ≡ before k l ++ operand_before (k + names_in l) op (is_left_alone l) (left_of k l) r
joined_before k l (Infix.Binary op) r =
    let named = holds_call r && not (is_left_alone l) in
    append_assoc (before k l) (part_named named (k + names_in l) (left_of k l)) (before (k + names_in l + one_if named) r)
joined_before k l _ r = refl

joined_after : (k : ℕ) (l : RawExprTree) (op : Infix) (r : RawExprTree) → k + names_in (raw_joined l op r) ≡ operand_after (k + names_in l) op (is_left_alone l) r
joined_after k l (Infix.Binary op) r = omega arith
joined_after k l _ r = omega arith

-- ---- several

chained_left : (k : ℕ) (l : RawExprTree) (ps : List (Infix × RawExprTree)) → left_of k (raw_chained l ps) ≡ operands_left (k + names_in l) (is_left_alone l) (left_of k l) ps
chained_left k l [] = refl
chained_left k l (p ∷ ps) =
    chained_left k (raw_joined l p.0 p.1) ps
    ∙ (λ i. operands_left (joined_after k l p.0 p.1 i) (joined_alone l p.0 p.1 i) (joined_left k l p.0 p.1 i) ps)

chained_before : (k : ℕ) (l : RawExprTree) (ps : List (Infix × RawExprTree)) → before k (raw_chained l ps) ≡ before k l ++ operands_before (k + names_in l) (is_left_alone l) (left_of k l) ps
chained_before k l [] = sym (append-nil (before k l))
chained_before k l (p ∷ ps) =
    chained_before k (raw_joined l p.0 p.1) ps
    ∙ (λ i. joined_before k l p.0 p.1 i ++ operands_before (joined_after k l p.0 p.1 i) (joined_alone l p.0 p.1 i) (joined_left k l p.0 p.1 i) ps)
    ∙ append_assoc (before k l) (operand_before (k + names_in l) p.0 (is_left_alone l) (left_of k l) p.1)
    (operands_before (operand_after (k + names_in l) p.0 (is_left_alone l) p.1) false (operand_left (k + names_in l) p.0 (is_left_alone l) (left_of k l) p.1) ps)

chained_after : (k : ℕ) (l : RawExprTree) (ps : List (Infix × RawExprTree)) → k + names_in (raw_chained l ps) ≡ operands_after (k + names_in l) (is_left_alone l) ps
chained_after k l [] = refl
chained_after k l (p ∷ ps) = chained_after k (raw_joined l p.0 p.1) ps ∙ (λ i. operands_after (joined_after k l p.0 p.1 i) (joined_alone l p.0 p.1 i) ps)

-- ---- a whole chain, whose first operand is rewritten and then its operators: `whole` with the first operand, of which `l` is left

pub chain_left : (k n : ℕ) (alone : Bool) (whole first l c e : RawExprTree) (ps : List (Infix × RawExprTree)) →
    whole ≡ raw_chained first ps → l ≡ left_of k first → n ≡ k + names_in first → alone ≡ is_left_alone first →
    c ≡ operands_left n alone l ps → e ≡ c → e ≡ left_of k whole
chain_left k n alone whole first l c e ps hw hl hn ha hc he =
    he ∙ hc ∙ (λ i. operands_left (hn i) (ha i) (hl i) ps) ∙ sym (chained_left k first ps) ∙ ap (left_of k) (sym hw)

pub chain_before : (k n : ℕ) (alone : Bool) (whole first l : RawExprTree) (ps : List (Infix × RawExprTree)) (s t u : Received) →
    whole ≡ raw_chained first ps → l ≡ left_of k first → n ≡ k + names_in first → alone ≡ is_left_alone first →
    t ≡ then_all s (before k first) → u ≡ then_all t (operands_before n alone l ps) → u ≡ then_all s (before k whole)
chain_before k n alone whole first l ps s t u hw hl hn ha ht hu =
    hu ∙ (λ i. then_all (ht i) (operands_before (hn i) (ha i) (hl i) ps))
    ∙ then_then s (before k first) (operands_before (k + names_in first) (is_left_alone first) (left_of k first) ps)
    ∙ ap (then_all s) (sym (chained_before k first ps) ∙ ap (before k) (sym hw))

pub chain_after : (k n m : ℕ) (alone : Bool) (whole first : RawExprTree) (ps : List (Infix × RawExprTree)) →
    whole ≡ raw_chained first ps → n ≡ k + names_in first → alone ≡ is_left_alone first → m ≡ operands_after n alone ps → m ≡ k + names_in whole
chain_after k n m alone whole first ps hw hn ha hm =
    hm ∙ (λ i. operands_after (hn i) (ha i) ps) ∙ sym (chained_after k first ps) ∙ ap (λ e. k + names_in e) (sym hw)

-- ---- a turn over the operators: one more of them, and then the rest

pub turn_before : (k n : ℕ) (alone : Bool) (l c : RawExprTree) (p : Infix × RawExprTree) (ps : List (Infix × RawExprTree)) (s t whole : Received) →
    t ≡ then_all s (operand_before k p.0 alone l p.1) → c ≡ operand_left k p.0 alone l p.1 → n ≡ operand_after k p.0 alone p.1 →
    then_all s (operands_before k alone l (p ∷ ps)) ≡ whole → then_all t (operands_before n false c ps) ≡ whole
turn_before k n alone l c p ps s t whole ht hc hn h =
    (λ i. then_all (ht i) (operands_before (hn i) false (hc i) ps))
    ∙ then_then s (operand_before k p.0 alone l p.1) (operands_before (operand_after k p.0 alone p.1) false (operand_left k p.0 alone l p.1) ps)
    ∙ h

pub turn_left : (k n : ℕ) (alone : Bool) (l c whole : RawExprTree) (p : Infix × RawExprTree) (ps : List (Infix × RawExprTree)) →
    c ≡ operand_left k p.0 alone l p.1 → n ≡ operand_after k p.0 alone p.1 → operands_left k alone l (p ∷ ps) ≡ whole → operands_left n false c ps ≡ whole
turn_left k n alone l c whole p ps hc hn h = (λ i. operands_left (hn i) false (hc i) ps) ∙ h

pub turn_after : (k n : ℕ) (alone : Bool) (p : Infix × RawExprTree) (ps : List (Infix × RawExprTree)) (whole : ℕ) →
    n ≡ operand_after k p.0 alone p.1 → operands_after k alone (p ∷ ps) ≡ whole → operands_after n false ps ≡ whole
turn_after k n alone p ps whole hn h = ap (λ m. operands_after m false ps) hn ∙ h
