-- Two ways to cut one list, and what a list lacks.
use Rattle.std.proofs.Common.{ℕ, ◌≡◌, ◌⊎◌, inl, inr, List, [], ◌∷◌, ◌++◌, refl, sym, ap, get_or, drop}

-- b is a and more
pub record Extends (a x b y : List ℕ) : Type 0 where
  pub more : List ℕ
  pub front : b ≡ a ++ more
  pub back : x ≡ more ++ y

-- of two fronts of one list, one goes on from the other
pub cuts_compare : (a b x y : List ℕ) → a ++ x ≡ b ++ y → Extends a x b y ⊎ Extends b y a x
cuts_compare [] b x y e = inl (record { more = b; front = refl; back = e })
cuts_compare (c ∷ a) [] x y e = inr (record { more = c ∷ a; front = refl; back = sym e })
cuts_compare (c ∷ a) (d ∷ b) x y e =
    let heads : c ≡ d = cc in
    let tails : a ++ x ≡ b ++ y = cc in
    elim (cuts_compare a b x y tails) [
      | inl w ↦ let front : d ∷ b ≡ (c ∷ a) ++ w.more = let tail = w.front in cc in inl (record { more = w.more; front = front; back = w.back })
      | inr w ↦ let front : c ∷ a ≡ (d ∷ b) ++ w.more = let tail = w.front in cc in inr (record { more = w.more; front = front; back = w.back })
    ]

-- equal lists have equal heads and equal tails
pub same_heads : {a b : ℕ} {x y : List ℕ} → a ∷ x ≡ b ∷ y → a ≡ b
same_heads e = ap (λ l. get_or l 0 0) e

pub same_tails : {a b : ℕ} {x y : List ℕ} → a ∷ x ≡ b ∷ y → x ≡ y
same_tails e = ap (drop 1) e
