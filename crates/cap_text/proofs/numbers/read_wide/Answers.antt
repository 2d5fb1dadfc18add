use Rattle.cap_text.proofs.Common.{refl, w128, IsInteger}
use Rattle.cap_text.proofs.Refusals.{Refusals, LargeInteger, natural_number, negative_number, natural_refusals, negative_refusals, no_integer, integer_reads}
use Rattle.cap_text.proofs.numbers.read_wide.Goals as goal

negative : (c : goal.After-read_negative) → Refusals c.read_negative.result (¬ IsInteger c.args.bytes.now) (LargeInteger c.args.bytes.now)
negative c =
    negative_refusals _ _ _ c.read_negative.result c.in-Some.ensures.cases.0 c.if-first-eq45.true (record { not_a_number = c.read_negative.ensures.not_a_number; too_large = c.read_negative.ensures.too_large })

natural : (c : goal.After-read_natural) → Refusals c.read_natural.result (¬ IsInteger c.args.bytes.now) (LargeInteger c.args.bytes.now)
natural c =
    natural_refusals _ _ _ c.read_natural.result c.in-Some.ensures.cases.0 c.if-first-eq45.false (record { not_a_number = c.read_natural.ensures.not_a_number; too_large = c.read_natural.ensures.too_large })

pub returns-in_default-clause-not_a_number : goal.returns-in_default-clause-not_a_number
returns-in_default-clause-not_a_number c = (λ e. no_integer _ c.in_default.ensures.cases, λ h. refl)

pub returns-in_default-clause-too_large : goal.returns-in_default-clause-too_large
returns-in_default-clause-too_large c = (λ e. absurd (cc), λ (z, is, out). absurd (no_integer _ c.in_default.ensures.cases (z, is)))

pub returns-then-first-eq45-clause-number : goal.returns-then-first-eq45-clause-number
returns-then-first-eq45-clause-number c = negative_number _ _ _ _ c.in-Some.ensures.cases.0 c.if-first-eq45.true c.read_negative.ensures.number

pub returns-then-first-eq45-clause-not_a_number : goal.returns-then-first-eq45-clause-not_a_number
returns-then-first-eq45-clause-not_a_number c = (negative c).not_a_number

pub returns-then-first-eq45-clause-too_large : goal.returns-then-first-eq45-clause-too_large
returns-then-first-eq45-clause-too_large c = (negative c).too_large

pub returns-else-first-eq45-clause-number : goal.returns-else-first-eq45-clause-number
returns-else-first-eq45-clause-number c = natural_number _ _ c.read_natural.ensures.number

pub returns-else-first-eq45-clause-not_a_number : goal.returns-else-first-eq45-clause-not_a_number
returns-else-first-eq45-clause-not_a_number c = (natural c).not_a_number

pub returns-else-first-eq45-clause-too_large : goal.returns-else-first-eq45-clause-too_large
returns-else-first-eq45-clause-too_large c = (natural c).too_large

pub returns-in_default-clause-reads : goal.returns-in_default-clause-reads
returns-in_default-clause-reads c z fits is = absurd (no_integer _ c.in_default.ensures.cases (z, is))

pub returns-then-first-eq45-clause-reads : goal.returns-then-first-eq45-clause-reads
returns-then-first-eq45-clause-reads c = integer_reads w128 _ c.read_negative.result (returns-then-first-eq45-clause-number c) (negative c)

pub returns-else-first-eq45-clause-reads : goal.returns-else-first-eq45-clause-reads
returns-else-first-eq45-clause-reads c = integer_reads w128 _ c.read_natural.result (returns-else-first-eq45-clause-number c) (natural c)
