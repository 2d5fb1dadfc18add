use Rattle.cap_text.proofs.Spellings.{empty_is_none, decides_zero, decides_digits}
use Rattle.cap_text.proofs.numbers.is_decimal.Goals as goal

pub returns-in_default : goal.returns-in_default
returns-in_default c = empty_is_none _ c.in_default.ensures.cases

pub returns-then-first-eq48 : goal.returns-then-first-eq48
returns-then-first-eq48 c = decides_zero _ _ _ _ c.in-Some.ensures.cases.0 c.if-first-eq48.true c.is_empty.ensures

pub returns-else-first-eq48 : goal.returns-else-first-eq48
returns-else-first-eq48 c = decides_digits _ _ _ _ c.in-Some.ensures.cases.0 c.if-first-eq48.false c.all_digits.ensures
