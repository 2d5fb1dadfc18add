-- Tests of some element of a list.
use Rattle.thread_waits.proofs.Common.{◌≡◌, ◌+◌, ◌<◌, ◌&&◌, ◌||◌, Bool, true, false, List, [], ◌∷◌, refl, arith, count_by, list_any, or-true, or_swap}
use Rattle.thread_waits.proofs.GrownLaws.{one_if, count_cons}

and_or : (a b h : Bool) → ((a && h) || (b && h)) ≡ ((a || b) && h)
and_or true true true = refl
and_or true true false = refl
and_or true false true = refl
and_or true false false = refl
and_or false b h = refl

module _ {X : Type 0} where
  pub any_ext : (p q : X → Bool) → ((x : X) → p x ≡ q x) → (xs : List X) → list_any p xs ≡ list_any q xs
  any_ext p q e [] = refl
  any_ext p q e (x ∷ xs) = rw (e x, any_ext p q e xs) refl

  pub any_or : (p q : X → Bool) (xs : List X) → list_any (λ x. p x || q x) xs ≡ (list_any p xs || list_any q xs)
  any_or p q [] = refl
  any_or p q (x ∷ xs) = rw (any_or p q xs) (or_swap (p x) (q x) (list_any p xs) (list_any q xs))

  pub any_and : (p : X → Bool) (h : Bool) (xs : List X) → list_any (λ x. p x && h) xs ≡ (list_any p xs && h)
  any_and p h [] = refl
  any_and p h (x ∷ xs) = rw (any_and p h xs) (and_or (p x) (list_any p xs) h)

  count_step : (p q : X → Bool) → ((x : X) → p x ≡ true → q x ≡ true) → (x : X) (xs : List X) → (b : Bool) → p x ≡ b → (0 < count_by p xs → list_any q xs ≡ true) →
      0 < one_if b + count_by p xs → (q x || list_any q xs) ≡ true
  count_step p q f x xs true e rest h = rw (f x e) refl
  count_step p q f x xs false e rest h = rw (rest (omega arith)) (or-true (q x))

  -- where so many pass one test, some passes another that each of these passes
  pub any_from_count : (p q : X → Bool) → ((x : X) → p x ≡ true → q x ≡ true) → (xs : List X) → 0 < count_by p xs → list_any q xs ≡ true
  any_from_count p q f [] h = absurd (omega arith)
  any_from_count p q f (x ∷ xs) h = count_step p q f x xs (p x) refl (any_from_count p q f xs) (rw (count_cons p x xs) at h)

  none_by : (p : X → Bool) (x : X) (xs : List X) (b : Bool) → p x ≡ b → (count_by p xs ≡ 0 → list_any p xs ≡ false) → one_if b + count_by p xs ≡ 0 → (p x || list_any p xs) ≡ false
  none_by p x xs true e rest h = absurd (omega arith)
  none_by p x xs false e rest h = rw (e, rest (omega arith)) refl

  -- where none is counted, none passes
  pub none_from_count : (p : X → Bool) (xs : List X) → count_by p xs ≡ 0 → list_any p xs ≡ false
  none_from_count p [] e = refl
  none_from_count p (x ∷ xs) e = none_by p x xs (p x) refl (none_from_count p xs) (rw (count_cons p x xs) at e)
