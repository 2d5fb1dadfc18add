-- Decisions, put together of smaller ones.
use Rattle.std.proofs.Common.{◌⊎◌, negsuc}
use Rattle.std.proofs.lemmas.Bool.{cases_lt}
use Rattle.choice_rules.proofs.Common.{◌≡◌, ℕ, ℤ, pos, zero, suc, ◌<◌, ◌≤◌, inl, inr, Bool, true, false, List, [], ◌∷◌, ◌++◌, Option, Some, None, refl, ap, subst, arith, ⊎_elim, AllByRecursion, cases_eq}

abbrev pub Decided : Type 0 → Type 0
Decided P = P ⊎ (P → ⊥)

-- ---- of two statements

pub decided_by : {P Q : Type 0} → (P → Q) → (Q → P) → Decided P → Decided Q
decided_by to from (inl p) = inl (to p)
decided_by to from (inr none) = inr (λ q. none (from q))

pub both_decided : {P Q : Type 0} → Decided P → Decided Q → Decided (P × Q)
both_decided (inl p) (inl q) = inl (p, q)
both_decided (inr none) q = inr (λ both. none both.0)
both_decided (inl p) (inr none) = inr (λ both. none both.1)

pub either_decided : {P Q : Type 0} → Decided P → Decided Q → Decided (P ⊎ Q)
either_decided (inl p) q = inl (inl p)
either_decided (inr none) (inl q) = inl (inr q)
either_decided (inr none) (inr nor) = inr (λ either. elim either [ inl p ↦ none p | inr q ↦ nor q ])

pub denied : {P : Type 0} → Decided P → Decided (P → ⊥)
denied (inl p) = inr (λ none. none p)
denied (inr none) = inl none

pub implied_decided : {P Q : Type 0} → Decided P → Decided Q → Decided (P → Q)
implied_decided (inr none) q = inl (λ p. absurd (none p))
implied_decided (inl p) (inl q) = inl (λ other. q)
implied_decided (inl p) (inr none) = inr (λ all. none (all p))

-- ---- of one thing

-- there is one of which it holds, where it can hold of this one alone
pub only_decided : {A : Type 0} (P : A → Type 0) (a : A) → ((x : A) → P x → x ≡ a) → Decided (P a) → Decided ((x : A) × P x)
only_decided P a only (inl p) = inl (a, p)
only_decided P a only (inr none) = inr (λ some. none (subst P (only some.0 some.1) some.1))

-- ---- of numbers

pub le_decided : (a b : ℕ) → Decided (a ≤ b)
le_decided a b = ⊎_elim (λ (h : b < a). inr (λ le. omega (arith, h, le))) (λ (h : a ≤ b). inl h) (cases_lt b a)

pub number_same : (a b : ℕ) → Decided (a ≡ b)
number_same a b = cases_eq a b

pub bool_same : (a b : Bool) → Decided (a ≡ b)
bool_same true true = inl refl
bool_same true false = inr (λ e. cc)
bool_same false true = inr (λ e. cc)
bool_same false false = inl refl

pub integer_same : (a b : ℤ) → Decided (a ≡ b)
integer_same (pos a) (pos b) = decided_by (λ (e : a ≡ b). ap pos e) (λ e. cc) (number_same a b)
integer_same (negsuc a) (negsuc b) = decided_by (λ (e : a ≡ b). ap negsuc e) (λ e. cc) (number_same a b)
integer_same _ _ = inr (λ e. cc)

-- ---- of the numbers below a bound

abbrev pub Below : (ℕ → Type 0) → ℕ → Type 0
Below P n = (k : ℕ) × ((k < n) × P k)

pub below_decided : (P : ℕ → Type 0) → ((k : ℕ) → Decided (P k)) → (n : ℕ) → Decided (Below P n)
below_decided P each zero = inr (λ b. omega (arith, b.1.0))
below_decided P each (suc n) = by (each n) (below_decided P each n) where
  by : Decided (P n) → Decided (Below P n) → Decided (Below P (suc n))
  by (inl p) rest = inl (n, ((omega arith), p))
  by (inr none) (inl b) = inl (b.0, ((omega (arith, b.1.0)), b.1.1))
  by (inr none) (inr empty) = inr (λ b. last b (cases_eq b.0 n)) where
    last : (b : Below P (suc n)) → Decided (b.0 ≡ n) → ⊥
    last b (inl same) = none (subst P same b.1.1)
    last b (inr apart) = empty (b.0, ((let below = b.1.0 in omega (arith, below, apart)), b.1.1))

-- some that fits has it
abbrev pub Found : (A : Type 0) → (A → Type 0) → (A → Type 0) → Type 0
Found A Fits P = (a : A) × (Fits a × P a)

-- it is decided whether some that fits has what is decided of each
abbrev pub Searched : (A : Type 0) → (A → Type 0) → Type 1
Searched A Fits = (P : A → Type 0) → ((a : A) → Decided (P a)) → Decided (Found A Fits P)

abbrev pub Number : ℕ → (ℕ → Type 0) → Type 0
Number bound P = Found ℕ (λ n. n < bound) P

unfoldable pub numbers : (bound : ℕ) → Searched ℕ (λ n. n < bound)
numbers bound P each = below_decided P each bound

-- ---- of lists and options

pub all_decided : {A : Type 0} (P : A → Type 0) → ((x : A) → Decided (P x)) → (xs : List A) → Decided (AllByRecursion P xs)
all_decided P each [] = inl tt
all_decided P each (x ∷ xs) = both_decided (each x) (all_decided P each xs)

pub list_same : {A : Type 0} → ((x y : A) → Decided (x ≡ y)) → (a b : List A) → Decided (a ≡ b)
list_same each [] [] = inl refl
list_same each (x ∷ a) (y ∷ b) = by (each x y) (list_same each a b) where
  by : Decided (x ≡ y) → Decided (a ≡ b) → Decided (x ∷ a ≡ y ∷ b)
  by (inl e) (inl f) = inl (cc)
  by (inr none) f = inr (λ e. none (cc))
  by (inl e) (inr none) = inr (λ f. none (cc))
list_same each _ _ = inr (λ e. absurd (cc))

pub option_same : {A : Type 0} → ((x y : A) → Decided (x ≡ y)) → (a b : Option A) → Decided (a ≡ b)
option_same each None None = inl refl
option_same each (Some x) (Some y) = by (each x y) where
  by : Decided (x ≡ y) → Decided (Some x ≡ Some y)
  by (inl e) = inl (cc)
  by (inr none) = inr (λ e. none (cc))
option_same each _ _ = inr (λ e. absurd (cc))

-- what an option holds is there, and it holds of that
pub held_decided : {A : Type 0} (P : A → Type 0) (o : Option A) → ((x : A) → o ≡ Some x → Decided (P x)) → Decided ((x : A) × ((o ≡ Some x) × P x))
held_decided P None each = inr (λ h. let e = h.1.0 in absurd (cc))
held_decided {A} P (Some y) each = by (each y refl) where
  by : Decided (P y) → Decided ((x : A) × ((Some y ≡ Some x) × P x))
  by (inl p) = inl (y, (refl, p))
  by (inr none) = inr (λ h. let e = h.1.0 in let same : h.0 ≡ y = cc in none (subst P same h.1.1))

pub text_same : (a b : List ℕ) → Decided (a ≡ b)
text_same a b = list_same number_same a b

-- the text begins so, and a line feed follows
pub line_decided : (line text : List ℕ) → Decided ((left : List ℕ) × (text ≡ line ++ 10 ∷ left))
line_decided [] [] = inr (λ b. let e = b.1 in absurd (cc))
line_decided [] (y ∷ text) = decided_by (λ (e : y ≡ 10). (text, ap (λ (n : ℕ). n ∷ text) e)) (λ b. let e = b.1 in cc) (number_same y 10)
line_decided (x ∷ line) [] = inr (λ b. let e = b.1 in absurd (cc))
line_decided (x ∷ line) (y ∷ text) = by (number_same y x) (line_decided line text) where
  by : Decided (y ≡ x) → Decided ((left : List ℕ) × (text ≡ line ++ 10 ∷ left)) → Decided ((left : List ℕ) × (y ∷ text ≡ (x ∷ line) ++ 10 ∷ left))
  by (inl e) (inl b) = inl (b.0, (let f = b.1 in cc))
  by (inr none) b = inr (λ c. none (let f = c.1 in cc))
  by (inl e) (inr none) = inr (λ c. none (c.0, (let f = c.1 in cc)))

-- ---- of all numbers

pub all_below : (P : ℕ → Type 0) → ((k : ℕ) → Decided (P k)) → (n : ℕ) → Decided ((k : ℕ) → k < n → P k)
all_below P each n = by (below_decided (λ k. P k → ⊥) (λ k. denied (each k)) n) where
  held : (k : ℕ) → (Below (λ k. P k → ⊥) n → ⊥) → k < n → Decided (P k) → P k
  held k none h (inl p) = p
  held k none h (inr fails) = absurd (none (k, (h, fails)))

  by : Decided (Below (λ k. P k → ⊥) n) → Decided ((k : ℕ) → k < n → P k)
  by (inl b) = inr (λ all. b.1.1 (all b.0 b.1.0))
  by (inr none) = inl (λ k h. held k none h (each k))

-- from some number on it holds
pub everywhere : (P : ℕ → Type 0) → ((k : ℕ) → Decided (P k)) → (n : ℕ) → ((k : ℕ) → n ≤ k → P k) → Decided ((k : ℕ) → P k)
everywhere P each n past = decided_by (λ (all : (k : ℕ) → k < n → P k) k. elim (cases_lt k n) [ inl below ↦ all k below | inr beyond ↦ past k beyond ]) (λ all k h. all k) (all_below P each n)
