-- The first failure of what is decided and has bounds.
use Rattle.decisions.proofs.Common.{ℕ, suc, ◌≡◌, ◌<◌, ◌≤◌, ◌⊎◌, inl, inr, refl, subst, arith, Option, Some, None, cases_lt, Decided, everywhere}
use Rattle.decisions.proofs.Decisions.{first_without, IsFirstWithout}

-- what an option holds, if anything
pub held_decided : {A : Type 0} (P : A → Type 0) → ((x : A) → Decided (P x)) → (o : Option A) → Decided ((x : A) → o ≡ Some x → P x)
held_decided P each None = inl (λ x e. absurd cc)
held_decided {A} P each (Some y) = by (each y) where
  by : Decided (P y) → Decided ((x : A) → Some y ≡ Some x → P x)
  by (inl p) = inl (λ x e. let same : y ≡ x = cc in subst P same p)
  by (inr none) = inr (λ all. none (all y refl))

-- ---- a rule

-- A rule at a function and an index: it is decided, it holds from some index of a function on, and from some function on it holds
-- where it does at function 0.
pub record IsSearched (R : ℕ → ℕ → Type 0) : Type 0 where
  pub each : (f i : ℕ) → Decided (R f i)
  pub ends : ℕ → ℕ
  pub past_index : (f i : ℕ) → ends f ≤ i → R f i
  pub last : ℕ
  pub past_function : (f i : ℕ) → last ≤ f → R 0 i → R f i

pub record Fails (R : ℕ → ℕ → Type 0) : Type 0 where
  pub f : ℕ
  pub i : ℕ
  pub fails : R f i → ⊥
  pub lower_indices : (j : ℕ) → j < i → R f j
  pub lower_functions : (g j : ℕ) → g < f → R g j

pub holds_or_fails : (R : ℕ → ℕ → Type 0) → IsSearched R → ((f i : ℕ) → R f i) ⊎ Fails R
holds_or_fails R s = by (first_without Row row_decided (suc s.last)) where
  Row : ℕ → Type 0
  Row f = (i : ℕ) → R f i

  row_decided : (f : ℕ) → Decided (Row f)
  row_decided f = everywhere (R f) (s.each f) (s.ends f) (s.past_index f)

  in_row : (f : ℕ) → IsFirstWithout Row f → ((i : ℕ) → i < s.ends f → R f i) ⊎ ((i : ℕ) × ((i < s.ends f) × IsFirstWithout (R f) i)) → Fails R
  in_row f first (inl all) = absurd (first.fails (λ i. elim (cases_lt i (s.ends f)) [ inl below ↦ all i below | inr beyond ↦ s.past_index f i beyond ]))
  in_row f first (inr w) = record { f = f; i = w.0; fails = w.1.1.fails; lower_indices = w.1.1.lower; lower_functions = λ g j h. first.lower g h j }

  by : ((f : ℕ) → f < suc s.last → Row f) ⊎ ((f : ℕ) × ((f < suc s.last) × IsFirstWithout Row f)) → ((f i : ℕ) → R f i) ⊎ Fails R
  by (inl all) = inl (λ f i. elim (cases_lt f s.last) [ inl below ↦ all f (omega arith) i | inr beyond ↦ s.past_function f i beyond (all 0 (omega arith) i) ])
  by (inr w) = inr (in_row w.0 w.1.1 (first_without (R w.0) (s.each w.0) (s.ends w.0)))
