-- Decisions, put together of smaller ones.
use Rattle.decisions.proofs.Common.{◌≡◌, ℕ, zero, suc, ◌+◌, ◌<◌, ◌⊎◌, inl, inr, List, [], ◌∷◌, ◌++◌, refl, sym, subst, arith, cases_eq, canonical_decimal, Decided, decided_by, Below, below_decided, text_same, le_decided}

-- ---- of two statements

-- where the first holds, the second is decided
pub implied_decided : {P Q : Type 0} → Decided P → (P → Decided Q) → Decided (P → Q)
implied_decided (inr none) next = inl (λ p. absurd (none p))
implied_decided {P} {Q} (inl p) next = by (next p) where
  by : Decided Q → Decided (P → Q)
  by (inl q) = inl (λ other. q)
  by (inr none) = inr (λ all. none (all p))

-- ---- of numbers

pub lt_decided : (a b : ℕ) → Decided (a < b)
lt_decided a b = decided_by (λ h. omega (arith, h)) (λ h. omega (arith, h)) (le_decided (suc a) b)

-- ---- of the numbers below a bound

-- all have it, or some number is the first that hasn't
pub record IsFirstWithout (P : ℕ → Type 0) (n : ℕ) : Type 0 where
  pub lower : (k : ℕ) → k < n → P k
  pub fails : P n → ⊥

pub first_without : (P : ℕ → Type 0) → ((k : ℕ) → Decided (P k)) → (n : ℕ) → ((k : ℕ) → k < n → P k) ⊎ ((k : ℕ) × ((k < n) × IsFirstWithout P k))
first_without P each zero = inl (λ k h. absurd (omega (arith, h)))
first_without P each (suc n) = by (first_without P each n) where
  last : ((k : ℕ) → k < n → P k) → Decided (P n) → ((k : ℕ) → k < suc n → P k) ⊎ ((k : ℕ) × ((k < suc n) × IsFirstWithout P k))
  last all (inr fails) = inr (n, ((omega arith), record { lower = all; fails = fails }))
  last all (inl here) = inl (λ k h. which k h (cases_eq k n)) where
    which : (k : ℕ) → k < suc n → Decided (k ≡ n) → P k
    which k h (inl same) = subst P (sym same) here
    which k h (inr apart) = all k (omega (arith, h, apart))

  by : ((k : ℕ) → k < n → P k) ⊎ ((k : ℕ) × ((k < n) × IsFirstWithout P k)) → ((k : ℕ) → k < suc n → P k) ⊎ ((k : ℕ) × ((k < suc n) × IsFirstWithout P k))
  by (inl all) = last all (each n)
  by (inr some) = inr (some.0, ((omega (arith, some.1.0)), some.1.1))

-- ---- of texts

-- the text begins so
abbrev pub Begins : List ℕ → List ℕ → Type 0
Begins front text = (rest : List ℕ) × (text ≡ front ++ rest)

pub begins_decided : (front text : List ℕ) → Decided (Begins front text)
begins_decided [] text = inl (text, refl)
begins_decided (x ∷ front) [] = inr (λ b. let e = b.1 in absurd (cc))
begins_decided (x ∷ front) (y ∷ text) = by (cases_eq y x) (begins_decided front text) where
  by : Decided (y ≡ x) → Decided (Begins front text) → Decided (Begins (x ∷ front) (y ∷ text))
  by (inl e) (inl b) = inl (b.0, (let f = b.1 in cc))
  by (inr none) b = inr (λ c. none (let f = c.1 in cc))
  by (inl e) (inr none) = inr (λ c. none (c.0, (let f = c.1 in cc)))

-- the text is the canonical decimal of a number below the bound
pub decimal_decided : (text : List ℕ) (bound : ℕ) → Decided (Below (λ n. text ≡ canonical_decimal n) bound)
decimal_decided text bound = below_decided (λ n. text ≡ canonical_decimal n) (λ n. text_same text (canonical_decimal n)) bound
