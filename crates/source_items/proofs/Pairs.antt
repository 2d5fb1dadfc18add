-- Chains of one operator.
use Rattle.source_items.proofs.Common.{◌≡◌, ℕ, List, [], ◌∷◌, length, arith, sym, ap, ◌∙◌, Ok, slice_index_or, ExprTree, chained, Infix, joined_value, IsInRange, value, chained_is, chain_in_range}

-- a list of one element is that element
pub one-element : {A : Type 0} (xs : List A) (x : A) → length xs ≡ 1 → x ≡ slice_index_or xs 0 x → xs ≡ x ∷ []
one-element (y ∷ []) x one is = ap (λ z. z ∷ []) (sym is)
one-element _ x one is = absurd (omega (arith, one))

-- its value, by those of its operands
pub pair-value : (names globals : List (List ℕ)) (tree first right : ExprTree) (o : Infix) (l r word : ℕ) → tree ≡ chained first ((o, right) ∷ []) → value names globals first ≡ Ok l → value names globals right ≡ Ok r → joined_value o (Ok l) (Ok r) ≡ Ok word → value names globals tree ≡ Ok word
pair-value names globals tree first right o l r word is left here joins =
    ap (value names globals) is ∙ (chained_is names globals first ((o, right) ∷ []) ∙ (ap (λ v. joined_value o v (value names globals right)) left ∙ (ap (joined_value o (Ok l)) here ∙ joins)))

-- both operands are in range
pub pair-in-range : (sizes widths : List ℕ) (tree first right : ExprTree) (o : Infix) → tree ≡ chained first ((o, right) ∷ []) → IsInRange sizes widths tree → IsInRange sizes widths first × IsInRange sizes widths right
pair-in-range sizes widths tree first right o is h = let both = chain_in_range sizes widths tree first ((o, right) ∷ []) is h in (both.0, both.1.0)
