-- The fault to refuse, of some and then some more.
use Rattle.scope_rules.proofs.Common.{◌≡◌, refl, sym, ap, ◌∙◌, List, [], ◌∷◌, ◌++◌, Option, Fault, lesser, least_of}

pub least_of_append : (o : Option Fault) (xs ys : List Fault) → least_of o (xs ++ ys) ≡ least_of (least_of o xs) ys
least_of_append o [] ys = refl
least_of_append o (x ∷ xs) ys = least_of_append (lesser o x) xs ys

-- some, and then some more
pub least_of_then : (o a b : Option Fault) (xs ys : List Fault) → a ≡ least_of o xs → b ≡ least_of a ys → b ≡ least_of o (xs ++ ys)
least_of_then o a b xs ys p q = q ∙ (ap (λ z. least_of z ys) p ∙ sym (least_of_append o xs ys))
