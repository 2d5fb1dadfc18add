-- An expression with an operator in it is neither a name nor a call.
use Rattle.scope_rules.proofs.Common.{◌≡◌, ◌<◌, List, [], ◌∷◌, length, refl, ap, arith, Infix, RawExprTree, raw_joined, raw_chained, raw_arguments, listed}
use Rattle.scope_rules.specs.Forms.{IsNeither}

joined_neither : (l : RawExprTree) (o : Infix) (r : RawExprTree) → IsNeither (raw_joined l o r)
joined_neither l (Infix.Binary op) r = tt
joined_neither l _ r = tt

more_neither : (l : RawExprTree) (ps : List (Infix × RawExprTree)) → IsNeither l → IsNeither (raw_chained l ps)
more_neither l [] h = h
more_neither l (p ∷ ps) h = more_neither (raw_joined l p.0 p.1) ps (joined_neither l p.0 p.1)

pub chained_neither : (l : RawExprTree) (ps : List (Infix × RawExprTree)) → 0 < length ps → IsNeither (raw_chained l ps)
chained_neither l [] h = absurd (omega arith)
chained_neither l (p ∷ ps) h = more_neither (raw_joined l p.0 p.1) ps (joined_neither l p.0 p.1)

pub listed_arguments : (es : List RawExprTree) → listed (raw_arguments es) ≡ es
listed_arguments [] = refl
listed_arguments (e ∷ es) = ap (λ x. e ∷ x) (listed_arguments es)
