use Rattle.std.proofs.Common.{arith}
use Rattle.cap_text.proofs.Spellings.{same_number}
use Rattle.cap_text.proofs.numbers.read_natural.Goals as goal

pub returns-in-Some-clause-not_a_number : goal.returns-in-Some-clause-not_a_number
returns-in-Some-clause-not_a_number c = (λ e. absurd (cc), λ none. absurd (none (c.in-Some.number, c.in-Some.ensures.0)))

pub returns-in-Some-clause-too_large : goal.returns-in-Some-clause-too_large
returns-in-Some-clause-too_large c = (
  λ e. absurd (cc),
  λ (n, is, above). let same = same_number _ _ _ c.in-Some.ensures.0 is in absurd (omega (arith, above, c.in-Some.ensures.1)),
)
