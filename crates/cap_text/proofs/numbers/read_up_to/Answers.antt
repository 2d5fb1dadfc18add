use Rattle.std.proofs.Common.{◌<◌, arith, refl}
use Rattle.cap_text.proofs.Spellings.{same_number}
use Rattle.cap_text.proofs.numbers.read_up_to.Goals as goal

pub number_of-requires : goal.number_of-requires
number_of-requires c = c.if-not-is_decimal.ensures

pub returns-in-Some-clause-number : goal.returns-in-Some-clause-number
returns-in-Some-clause-number c = (c.in-Some.ensures, c.if-number-max.true)

pub returns-in-Some-clause-too_large : goal.returns-in-Some-clause-too_large
returns-in-Some-clause-too_large c = (
  λ e. absurd (cc),
  λ (n, is, above). let same = same_number _ _ _ c.in-Some.ensures is in absurd (omega arith),
)

pub returns-in_default-clause-too_large : goal.returns-in_default-clause-too_large
returns-in_default-clause-too_large c = (λ e. (c.in-Some.number, c.in-Some.ensures, c.if-number-max.false), λ h. refl)

pub returns-in_default-2-clause-too_large : goal.returns-in_default-2-clause-too_large
returns-in_default-2-clause-too_large c =
    let above : c.args.max < c.in_default.ensures.0 = let large = c.in_default.ensures.2 in omega (arith, c.ranges.max.fits) in
    (λ e. (c.in_default.ensures.0, c.in_default.ensures.1, above), λ h. refl)
