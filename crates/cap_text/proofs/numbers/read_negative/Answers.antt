use Rattle.cap_text.proofs.Common.{◌≡◌, ℕ, ◌+◌, ◌-◌, arith, refl, ap, ◌∙◌, Result, Err, ℤ, canonical_decimal, NumberError}
use Rattle.cap_text.proofs.Refusals.{says, refuses, Refusals, NoSize, LargeSize, size_refused, sizes_apart, no_size_of_zero, negated}
use Rattle.cap_text.proofs.numbers.read_negative.Goals as goal

refused : (c : goal.In-Err) → (r : Result ℤ NumberError) → r ≡ Err c.in-Err.error → Refusals r (NoSize c.args.size.now) (LargeSize c.args.size.now)
refused c r is =
    let e = c.in-Err.error in
    let natural : Result ℕ NumberError = Err e in
    refuses e (size_refused c.args.size.now e (says natural e refl c.in-Err.ensures.not_a_number c.in-Err.ensures.too_large)) (sizes_apart c.args.size.now) r is

pub returns-in-Ok-clause-number : goal.returns-in-Ok-clause-number
returns-in-Ok-clause-number c =
    let n = c.in-Ok.number in
    let number = c.in-Ok.ensures.number in
    let back : n ≡ n - 1 + 1 = omega (arith, c.if-number-gt0.true) in
    (n - 1, negated n c.if-number-gt0.true number.1, number.0 ∙ ap canonical_decimal back)

pub returns-in-Ok-2-clause-not_a_number : goal.returns-in-Ok-2-clause-not_a_number
returns-in-Ok-2-clause-not_a_number c =
    let none : c.in-Ok.number ≡ 0 = omega (arith, c.if-number-gt0.false) in
    (λ e. no_size_of_zero _ (c.in-Ok.ensures.number.0 ∙ ap canonical_decimal none), λ h. refl)

pub returns-in-Err-clause-not_a_number : goal.returns-in-Err-clause-not_a_number
returns-in-Err-clause-not_a_number c = (refused c (Err c.in-Err.error) refl).not_a_number

pub returns-in-Err-clause-too_large : goal.returns-in-Err-clause-too_large
returns-in-Err-clause-too_large c = (refused c (Err c.in-Err.error) refl).too_large
