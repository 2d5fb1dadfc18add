use Rattle.std.proofs.Common.{arith, Err}
use Rattle.cap_text.proofs.Refusals.{decimal_reads, decimal_answer}
use Rattle.cap_text.proofs.numbers.read_any_dec.Goals as goal

pub returns-in_err-number-clause-reads : goal.returns-in_err-number-clause-reads
returns-in_err-number-clause-reads c n most is =
    let error = c.in_err-number.field-0.0 in
    let answer = decimal_reads c.args.bytes.now c.from.result (Err error) tt (record { not_a_number = c.in_err-number.ensures.not_a_number; too_large = c.in_err-number.ensures.too_large }) n (omega (arith, most, c.from.ensures)) is in
    absurd (cc)

pub returns-clause-reads : goal.returns-clause-reads
returns-clause-reads c n most is = decimal_answer c.args.bytes.now c.in_ok-number.number n c.in_ok-number.ensures.number.0 is
