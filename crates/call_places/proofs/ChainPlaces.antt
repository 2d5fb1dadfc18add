-- The places of the calls of operators one after another.
use Rattle.call_places.proofs.Common.{◌≡◌, ℕ, List, [], ◌∷◌, ◌++◌, append_assoc, refl, sym, ap, ◌∙◌, append-nil, raw_joined, raw_chained, is_call, expr_places}
use Rattle.c_tree.specs.declared.operators.Infix.{Infix}
use Rattle.c_tree.specs.RawTrees.{RawExprTree}

abbrev pub operands_places : List (Infix × RawExprTree) → List ℕ
operands_places [] = []
operands_places (p ∷ ps) = expr_places is_call p.1 ++ operands_places ps

joined_places : (l : RawExprTree) (o : Infix) (r : RawExprTree) → expr_places is_call (raw_joined l o r) ≡ expr_places is_call l ++ expr_places is_call r
joined_places l (Infix.Binary op) r = refl
joined_places l _ r = refl

pub chained_places : (l : RawExprTree) (ps : List (Infix × RawExprTree)) → expr_places is_call (raw_chained l ps) ≡ expr_places is_call l ++ operands_places ps
chained_places l [] = sym (append-nil (expr_places is_call l))
chained_places l (p ∷ ps) =
    chained_places (raw_joined l p.0 p.1) ps
    ∙ (ap (λ x. x ++ operands_places ps) (joined_places l p.0 p.1)
    ∙ append_assoc (expr_places is_call l) (expr_places is_call p.1) (operands_places ps))

-- ---- places that are added one after another

pub chain_begins : (before now : List ℕ) (e l : RawExprTree) (ps : List (Infix × RawExprTree)) → now ≡ before ++ expr_places is_call l → e ≡ raw_chained l ps → now ++ operands_places ps ≡ before ++ expr_places is_call e
chain_begins before now e l ps h q =
    ap (λ x. x ++ operands_places ps) h
    ∙ (append_assoc before (expr_places is_call l) (operands_places ps)
    ∙ ap (λ x. before ++ x) (sym (ap (expr_places is_call) q ∙ chained_places l ps)))

pub two_added : (p q r a b w : List ℕ) → q ≡ p ++ a → w ≡ a ++ b → r ≡ q ++ b → r ≡ p ++ w
two_added p q r a b w e f g = g ∙ (ap (λ x. x ++ b) e ∙ (append_assoc p a b ∙ ap (λ x. p ++ x) (sym f)))

pub three_added : (p q r s a b c w : List ℕ) → q ≡ p ++ a → r ≡ q ++ b → w ≡ a ++ (b ++ c) → s ≡ r ++ c → s ≡ p ++ w
three_added p q r s a b c w e f g h = two_added p q s a (b ++ c) w e g (h ∙ (ap (λ x. x ++ c) f ∙ append_assoc q b c))
