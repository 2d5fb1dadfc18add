-- Of two first failures neither is before the other.
use Rattle.std.proofs.Common.{◌≡◌, ℕ, ◌<◌, subst, sym, inl, inr}
use Rattle.std.proofs.lemmas.Bool.{cases_order}
use Rattle.certificate_rules.specs.Validity.{IsFirstFailure}
use Rattle.certificate_rules.proofs.laws.failures_are_one.Goals as goal

-- numbers are equal where neither is below the other
equal : (a b : ℕ) → (a < b → ⊥) → (b < a → ⊥) → a ≡ b
equal a b not_below not_above =
    elim (cases_order a b) [ inl e ↦ e | inr h ↦ elim h [ inl lt ↦ absurd (not_below lt) | inr lt ↦ absurd (not_above lt) ] ]

pub returns-clause-one : goal.returns-clause-one
returns-clause-one c = λ code image certificate rule f i other g j first second.
    let rules : rule ≡ other = equal rule other (λ lt. first.fails (second.lower_rules rule f i lt)) (λ lt. second.fails (first.lower_rules other g j lt)) in
    let P : ℕ → Type 0 = λ r. IsFirstFailure code image certificate r g j in
    let moved : IsFirstFailure code image certificate rule g j = subst P (sym rules) second in
    let functions : f ≡ g = equal f g (λ lt. first.fails (moved.lower_functions f i lt)) (λ lt. moved.fails (first.lower_functions g j lt)) in
    let Q : ℕ → Type 0 = λ h. IsFirstFailure code image certificate rule h j in
    let same : IsFirstFailure code image certificate rule f j = subst Q (sym functions) moved in
    (rules, functions, equal i j (λ lt. first.fails (same.lower_indices i lt)) (λ lt. same.fails (first.lower_indices j lt)))
