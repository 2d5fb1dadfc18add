use Rattle.cap_text.proofs.Common.{◌≡◌, take, digits_value}
use Rattle.cap_text.proofs.numbers.number_of.Given as goal

abbrev pub invariant-loop-digit : goal.invariant-loop-digit
invariant-loop-digit l = l.number ≡ digits_value 10 (take l.digit-index l.digits)
