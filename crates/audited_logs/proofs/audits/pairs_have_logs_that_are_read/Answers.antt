use Rattle.audited_logs.proofs.Logs.{log_judged}
use Rattle.log_laws.proofs.Starting.{one_log}
use Rattle.audited_logs.proofs.audits.pairs_have_logs_that_are_read.Goals as goal

pub returns : goal.returns
returns c = λ g trace most scoped valid areas fuel caps.
    let one = one_log g scoped valid areas fuel trace in
    record { entries = one.entries; stop = one.stop; end = one.end; lawful = one.lawful; read = log_judged g scoped valid areas fuel caps most trace one.entries one.stop one.end one.lawful }
