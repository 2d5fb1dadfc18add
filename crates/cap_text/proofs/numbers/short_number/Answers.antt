use Rattle.cap_text.proofs.Common.{◌≡◌, take, arith, ap, subst, ◌∙◌, sym, AllDigits, digits_value, take_all, canonical_decimal}
use Rattle.cap_text.proofs.ShortNumbers.{one_more, room, short, zero_is, spells}
use Rattle.cap_text.proofs.numbers.short_number.Goals as goal

pub returns-then-is_empty : goal.returns-then-is_empty
returns-then-is_empty c = (zero_is _ _ _ c.in-Some.ensures.cases.0 c.if-first-eq48.true c.if-is_empty.ensures, omega arith)

pub overflow_mul-number : goal.overflow_mul-number
overflow_mul-number c =
    let most = short _ _ _ c.in-Some.ensures.cases.0 c.if-rest-ge-MOST_SHORT_DIGITS.false in
    let small = room c.args.bytes.now c.loop-byte.byte-index c.loop-byte-test.true most c.loop-byte.invariant.1 in
    omega (arith, small, c.loop-byte.invariant.0)

pub overflow_add-number : goal.overflow_add-number
overflow_add-number c =
    let most = short _ _ _ c.in-Some.ensures.cases.0 c.if-rest-ge-MOST_SHORT_DIGITS.false in
    let small = room c.args.bytes.now c.loop-byte.byte-index c.loop-byte-test.true most c.loop-byte.invariant.1 in
    omega (arith, small, c.loop-byte.invariant.0, c.from.ensures, c.if-byte-gt57.false)

pub loop-byte-preserved : goal.loop-byte-preserved
loop-byte-preserved c =
    let more = one_more c.args.bytes.now c.loop-byte.byte-index c.loop-byte-test.true c.loop-byte.invariant.1 c.if-byte-lt48.false c.if-byte-gt57.false in
    (omega (arith, more.1, c.loop-byte.invariant.0, c.from.ensures), more.0)

pub returns : goal.returns
returns c =
    let whole : take c.loop-byte.byte-index c.args.bytes.now ≡ c.args.bytes.now = take_all _ _ c.loop-byte-test.false in
    let digits = subst (AllDigits 10) whole c.loop-byte.invariant.1 in
    let number : c.loop-byte.number ≡ digits_value 10 c.args.bytes.now = c.loop-byte.invariant.0 ∙ ap (digits_value 10) whole in
    (spells _ _ _ c.in-Some.ensures.cases.0 c.if-first-eq48.false digits ∙ ap canonical_decimal (sym number), omega (arith, c.loop-byte.auto.number-fits))
