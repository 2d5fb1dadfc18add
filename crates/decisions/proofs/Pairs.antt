-- A pair is valid, or has a first failure.
use Rattle.decisions.proofs.Common.{ℕ, suc, ◌<◌, ◌⊎◌, inl, inr, refl, sym, subst, arith, cases_lt, cases_eq, FlatCode, Image, Certificate, Holds, IsValid, IsFirstFailure}
use Rattle.certificate_rules.proofs.HoldsLemmas.{holds_v1, holds_v2, holds_v3, holds_v4, holds_v5, holds_v6, holds_v7, holds_v8, holds_v9, holds_v10, holds_v11, holds_v12, holds_outside}
use Rattle.decisions.proofs.Search.{IsSearched, Fails, holds_or_fails}
use Rattle.decisions.proofs.Decided.{searched1, searched2, searched3, searched4, searched5, searched6, searched7, searched8, searched9, searched10, searched11, searched12}

module _ (code : FlatCode) (image : Image) (certificate : Certificate) where
  abbrev Failure : Type 0
  Failure = (rule f i : ℕ) × IsFirstFailure code image certificate rule f i

  -- each rule below this one holds everywhere
  abbrev AllBelow : ℕ → Type 0
  AllBelow rule = (lower f i : ℕ) → lower < rule → Holds code image certificate lower f i

  failure : (rule : ℕ) (R : ℕ → ℕ → Type 0) → ((f i : ℕ) → R f i → Holds code image certificate rule f i) → ((f i : ℕ) → Holds code image certificate rule f i → R f i) → AllBelow rule → Fails R → Failure
  failure rule R to from below w = (
    rule,
    w.f,
    w.i,
    record {
      fails = λ h. w.fails (from w.f w.i h);
      lower_indices = λ j h. to w.f j (w.lower_indices j h);
      lower_functions = λ g j h. to g j (w.lower_functions g j h);
      lower_rules = λ lower g j h. below lower g j h;
    },
  )

  next_below : (rule : ℕ) (R : ℕ → ℕ → Type 0) → ((f i : ℕ) → R f i → Holds code image certificate rule f i) → AllBelow rule → ((f i : ℕ) → R f i) → AllBelow (suc rule)
  next_below rule R to below all lower f i h =
      elim (cases_eq lower rule) [
        | inl same ↦ subst (λ (r : ℕ). Holds code image certificate r f i) (sym same) (to f i (all f i))
        | inr apart ↦ below lower f i (omega (arith, h, apart))
      ]

  -- one rule more
  step : (rule : ℕ) (R : ℕ → ℕ → Type 0) → IsSearched R → ((f i : ℕ) → R f i → Holds code image certificate rule f i) → ((f i : ℕ) → Holds code image certificate rule f i → R f i)
      → AllBelow rule ⊎ Failure → AllBelow (suc rule) ⊎ Failure
  step rule R s to from (inr failed) = inr failed
  step rule R s to from (inl below) =
      elim (holds_or_fails R s) [ inl all ↦ inl (next_below rule R to below all) | inr w ↦ inr (failure rule R to from below w) ]

  none_below : AllBelow 1 ⊎ Failure
  none_below = inl (λ lower f i h. holds_outside code image certificate lower f i (λ least most. omega (arith, h, least)))

  through_four : AllBelow 5 ⊎ Failure
  through_four =
      step 4 _ (searched4 code image certificate) (holds_v4 code image certificate) (λ f i h. h.v4 refl)
      (step 3 _ (searched3 code image certificate) (holds_v3 code image certificate) (λ f i h. h.v3 refl)
      (step 2 _ (searched2 code image certificate) (holds_v2 code image certificate) (λ f i h. h.v2 refl)
      (step 1 _ (searched1 code image certificate) (holds_v1 code image certificate) (λ f i h. h.v1 refl) none_below)))

  through_eight : AllBelow 9 ⊎ Failure
  through_eight =
      step 8 _ (searched8 code image certificate) (holds_v8 code image certificate) (λ f i h. h.v8 refl)
      (step 7 _ (searched7 code image certificate) (holds_v7 code image certificate) (λ f i h. h.v7 refl)
      (step 6 _ (searched6 code image certificate) (holds_v6 code image certificate) (λ f i h. h.v6 refl)
      (step 5 _ (searched5 code image certificate) (holds_v5 code image certificate) (λ f i h. h.v5 refl) through_four)))

  through_twelve : AllBelow 13 ⊎ Failure
  through_twelve =
      step 12 _ (searched12 code image certificate) (holds_v12 code image certificate) (λ f i h. h.v12 refl)
      (step 11 _ (searched11 code image certificate) (holds_v11 code image certificate) (λ f i h. h.v11 refl)
      (step 10 _ (searched10 code image certificate) (holds_v10 code image certificate) (λ f i h. h.v10 refl)
      (step 9 _ (searched9 code image certificate) (holds_v9 code image certificate) (λ f i h. h.v9 refl) through_eight)))

  valid : AllBelow 13 → IsValid code image certificate
  valid below = record {
    holds = λ rule f i. elim (cases_lt rule 13) [ inl lower ↦ below rule f i lower | inr past ↦ holds_outside code image certificate rule f i (λ least most. omega (arith, past, most)) ];
  }

  pub pair_decided : IsValid code image certificate ⊎ Failure
  pair_decided = elim through_twelve [ inl below ↦ inl (valid below) | inr failed ↦ inr failed ]
