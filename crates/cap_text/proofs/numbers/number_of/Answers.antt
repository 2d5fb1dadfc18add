use Rattle.cap_text.proofs.Common.{◌≡◌, ◌≤◌, ◌^◌, take, arith, ap, ◌∙◌, sym, digits_value, take_all, canonical_decimal}
use Rattle.cap_text.proofs.DecimalLaws.{decimal_value}
use Rattle.cap_text.proofs.Spellings.{prefix_le, prefix_more, digit_range}
use Rattle.cap_text.proofs.numbers.number_of.Goals as goal

pub returns-in_err-tens : goal.returns-in_err-tens
returns-in_err-tens c =
    let step = prefix_le c.args.digits.now c.requires.0 c.loop-digit.digit-index c.requires.1 c.loop-digit-test.true in
    let large : 2 ^ 128 ≤ c.requires.0 = omega (arith, c.in_err-tens.ensures) in
    rw c.from_residual.ensures (c.requires.0, c.requires.1, large)

pub overflow_sub-digit : goal.overflow_sub-digit
overflow_sub-digit c = (digit_range c.args.digits.now c.requires.0 c.loop-digit.digit-index c.requires.1 c.loop-digit-test.true).0

pub returns-in_err-number : goal.returns-in_err-number
returns-in_err-number c =
    let step = prefix_le c.args.digits.now c.requires.0 c.loop-digit.digit-index c.requires.1 c.loop-digit-test.true in
    let tens = c.in_ok-tens.ensures in
    let large : 2 ^ 128 ≤ c.requires.0 = omega (arith, c.in_err-number.ensures, c.from.ensures) in
    rw c.from_residual-in_err-number.ensures (c.requires.0, c.requires.1, large)

pub loop-digit-preserved : goal.loop-digit-preserved
loop-digit-preserved c =
    let step = prefix_more c.args.digits.now c.requires.0 c.loop-digit.digit-index c.requires.1 c.loop-digit-test.true in
    let tens = c.in_ok-tens.ensures in
    let number = c.in_ok-number.ensures in
    omega (arith, c.from.ensures)

pub returns : goal.returns
returns c =
    let whole : take c.loop-digit.digit-index c.args.digits.now ≡ c.args.digits.now = take_all _ _ c.loop-digit-test.false in
    let number : c.loop-digit.number ≡ c.requires.0 = c.loop-digit.invariant ∙ ap (digits_value 10) (whole ∙ c.requires.1) ∙ decimal_value c.requires.0 in
    c.requires.1 ∙ ap canonical_decimal (sym number)
