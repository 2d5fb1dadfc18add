use Rattle.c_lex.proofs.Common.{◌≡◌, ◌+◌, ◌*◌, ◌<◌, get_or, sym, ap, ◌∙◌, subst, arith, digit_value, digits_value_more, digits_more}
use Rattle.c_lex.proofs.Digits.{AllDigits-at, digits_value-take}
use Rattle.c_lex.proofs.numbers.value_of.Goals as goal

-- the byte is no digit
pub returns-in_err-digit-clause-none : goal.returns-in_err-digit-clause-none
returns-in_err-digit-clause-none c =
    rw c.from_residual.ensures (λ all. let here = AllDigits-at c.args.radix c.args.digits.now c.loop-byte.byte-index all (omega arith) in absurd (c.in_err-digit.ensures.value (subst (λ code. digit_value code < c.args.radix) (sym c.from.ensures) here)))

pub returns-in_err-value-clause-none : goal.returns-in_err-value-clause-none
returns-in_err-value-clause-none c = rw c.from_residual-in_err-value.ensures (λ all.
    let more = digits_value_more c.args.radix c.args.digits.now c.loop-byte.byte-index (omega arith) in
    let whole = digits_value-take c.args.radix c.args.digits.now (c.loop-byte.byte-index + 1) (omega arith) in
    let digit : c.in_ok-digit.digit ≡ digit_value (get_or c.args.digits.now c.loop-byte.byte-index 0) = c.in_ok-digit.ensures.value.1 ∙ ap digit_value c.from.ensures in
    let here = ap (λ value. value * c.args.radix) c.loop-byte.invariant.value in
    omega (arith, c.in_err-value.ensures.none))

pub loop-byte-preserved : goal.loop-byte-preserved
loop-byte-preserved c =
    let more = digits_value_more c.args.radix c.args.digits.now c.loop-byte.byte-index (omega arith) in
    let digit : c.in_ok-digit.digit ≡ digit_value (get_or c.args.digits.now c.loop-byte.byte-index 0) = c.in_ok-digit.ensures.value.1 ∙ ap digit_value c.from.ensures in
    let here = ap (λ value. value * c.args.radix) c.loop-byte.invariant.value in
    record {
      digits = digits_more c.args.radix c.args.digits.now c.loop-byte.byte-index (omega arith) c.loop-byte.invariant.digits (subst (λ code. digit_value code < c.args.radix) c.from.ensures c.in_ok-digit.ensures.value.0);
      value = omega (arith, c.in_ok-value.ensures.value);
    }
