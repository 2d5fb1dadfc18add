use Rattle.std.proofs.Common.{arith, refl}
use Rattle.cap_text.proofs.Refusals.{decimal_answer}
use Rattle.cap_text.proofs.Spellings.{same_number}
use Rattle.cap_text.proofs.numbers.read_dec.Goals as goal

pub returns-then-number-max-clause-reads : goal.returns-then-number-max-clause-reads
returns-then-number-max-clause-reads c n most is = decimal_answer c.args.bytes.now c.in-Some.number n c.in-Some.ensures.0 is

pub returns-then-number-max-clause-not_a_number : goal.returns-then-number-max-clause-not_a_number
returns-then-number-max-clause-not_a_number c = (λ e. absurd (cc), λ none. absurd (none (c.in-Some.number, c.in-Some.ensures.0)))

pub returns-then-number-max-clause-too_large : goal.returns-then-number-max-clause-too_large
returns-then-number-max-clause-too_large c = (
  λ e. absurd (cc),
  λ (n, is, above). let same = same_number _ _ _ c.in-Some.ensures.0 is in absurd (omega (arith, c.if-number-max.true)),
)

pub returns-else-number-max-clause-reads : goal.returns-else-number-max-clause-reads
returns-else-number-max-clause-reads c n most is =
    let same = same_number _ _ _ c.in-Some.ensures.0 is in absurd (omega (arith, most, c.if-number-max.false))

pub returns-else-number-max-clause-not_a_number : goal.returns-else-number-max-clause-not_a_number
returns-else-number-max-clause-not_a_number c = (λ e. absurd (cc), λ none. absurd (none (c.in-Some.number, c.in-Some.ensures.0)))

pub returns-else-number-max-clause-too_large : goal.returns-else-number-max-clause-too_large
returns-else-number-max-clause-too_large c = (λ e. (c.in-Some.number, c.in-Some.ensures.0, c.if-number-max.false), λ h. refl)
