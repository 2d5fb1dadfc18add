use Rattle.pair_commands.proofs.Common.{err_from_is_err_and, MatchResult-weaker, RunsPair}
use Rattle.pair_commands.proofs.Reading.{of-pair, stop-of-pair, unread-stops}
use Rattle.pair_commands.proofs.run_command.accept_bytes.Goals as goal

pub returns-in_err-program : goal.returns-in_err-program
returns-in_err-program c = λ trace.
    let p = err_from_is_err_and c.from_residual.result c.from_residual.ensures.1 in
    let a = c.args in
    rw (p.1, p.2) (unread-stops a.source.now a.image.now a.certificate.now (RunsPair trace a.policy) c.in_err-program.field-0.0 c.in_err-program.ensures)

pub returns : goal.returns
returns c = λ trace.
    let a = c.args in
    let pair = c.in_ok-program.field-0 in
    let is = c.in_ok-program.ensures in
    MatchResult-weaker c.accept_pair.result (c.accept_pair.ensures trace)
    (λ accepted h. ((λ o runs. of-pair a.source.now a.image.now a.certificate.now (RunsPair trace a.policy) pair is o (h.0 o runs)), h.1))
    (λ stop h. stop-of-pair a.source.now a.image.now a.certificate.now (RunsPair trace a.policy) pair is stop h)
