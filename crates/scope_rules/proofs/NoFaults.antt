-- What follows where no rule is broken.
use Rattle.scope_rules.proofs.Common.{ℕ, ◌≡◌, ◌≤◌, refl, Bool, true, false, not, List, [], ◌∷◌, ◌++◌, Option, Some, None, arith, nat_eq, nat_lt, nat_tests, Rule, Fault, Meaning, Found, broken, not-false, use_faults}

pub both_none : (xs ys : List Fault) → xs ++ ys ≡ [] → (xs ≡ []) × (ys ≡ [])
both_none [] ys h = (refl, h)
both_none (x ∷ xs) ys h = cc

pub four_none : (ws xs ys zs : List Fault) → ws ++ (xs ++ (ys ++ zs)) ≡ [] → (ws ≡ []) × (xs ≡ []) × (ys ≡ []) × (zs ≡ [])
four_none ws xs ys zs h =
    let k = both_none ws (xs ++ (ys ++ zs)) h in
    let j = both_none xs (ys ++ zs) k.1 in
    let i = both_none ys zs j.1 in
    (k.0, j.0, i.0, i.1)

pub not_broken : (b : Bool) (at : ℕ) (r : Rule) → broken b at r ≡ [] → b ≡ false
not_broken true at r h = cc
not_broken false at r h = refl

pub same_number : (a b : ℕ) → nat_eq a b ≡ true → a ≡ b
same_number a b h = grind (arith, nat_tests)

pub not_less : (a b : ℕ) → nat_lt a b ≡ false → b ≤ a
not_less a b h = grind (arith, nat_tests)

-- a name that may be used so
pub record Used (may : Meaning → Bool) (o : Option Found) : Type 0 where
  pub found : Found
  pub is : o ≡ Some found
  pub may_be : may found.meaning ≡ true

pub used : (may : Meaning → Bool) (o : Option Found) (at : ℕ) → use_faults may o at ≡ [] → Used may o
used may None at h = cc
used may (Some f) at h = record { found = f; is = refl; may_be = not-false (may f.meaning) (not_broken (not (may f.meaning)) at Rule.Kind h) }
