use Rattle.audited_logs.proofs.Logs.{log_judged, never_unlawful, enough}
use Rattle.audited_logs.proofs.audits.lawful_logs_are_read_as_lawful.Goals as goal

pub returns-clause-judged : goal.returns-clause-judged
returns-clause-judged c = λ g trace entries stop end most scoped valid areas fuel caps log. log_judged g scoped valid areas fuel caps most trace entries stop end log

pub returns-clause-never_unlawful : goal.returns-clause-never_unlawful
returns-clause-never_unlawful c = λ g trace entries stop end most line scoped valid areas fuel caps log. never_unlawful g scoped valid areas fuel caps most trace entries stop end line log

pub returns-clause-enough : goal.returns-clause-enough
returns-clause-enough c = λ g trace entries stop end scoped valid areas fuel caps log. enough g scoped valid areas fuel caps 0 trace entries stop end log
