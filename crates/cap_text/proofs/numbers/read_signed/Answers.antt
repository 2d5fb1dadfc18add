use Rattle.cap_text.proofs.Common.{rules, FitsSigned, w128}
use Rattle.cap_text.proofs.Refusals.{in_range, one_integer}
use Rattle.cap_text.proofs.numbers.read_signed.Goals as goal

pub returns-in-Ok-clause-too_large : goal.returns-in-Ok-clause-too_large
returns-in-Ok-clause-too_large c =
    let fits : FitsSigned w128 c.in-Ok.number = search rules in
    let small = in_range c.in-Ok.number fits c.if-number-geminus2147483648.true c.if-number-le2147483647.true in
    (λ e. absurd (cc), λ (z, is, out). absurd (out (rw (one_integer _ _ _ c.in-Ok.ensures.number is) small)))
