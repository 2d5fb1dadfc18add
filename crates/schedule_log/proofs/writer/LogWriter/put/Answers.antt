use Rattle.schedule_log.proofs.Written.{prefix_none, passed_grows, passed_prefix, passed_counts, passed_rises}
use Rattle.schedule_log.proofs.writer.LogWriter.put.Goals as goal

pub returns-in_err-answer-clause-prefix : goal.returns-in_err-answer-clause-prefix
returns-in_err-answer-clause-prefix g c = prefix_none _ _

pub returns-clause-grows : goal.returns-clause-grows
returns-clause-grows g c =
    rw (← c.self.view_is)
    (passed_grows _ _ _ c.answer-2.result c.write_line.ensures c.in_ok-answer.ensures.kept c.answer-2.ensures.kept)

pub returns-clause-prefix : goal.returns-clause-prefix
returns-clause-prefix g c =
    rw (← c.self.view_is) (passed_prefix _ _ _ c.write_line.ensures c.in_ok-answer.ensures.kept)

pub returns-clause-counts : goal.returns-clause-counts
returns-clause-counts g c =
    λ _. passed_counts _ _ _ c.answer-2.result c.write_line.ensures c.in_ok-answer.ensures.kept c.answer-2.ensures.kept

pub returns-clause-never_falls : goal.returns-clause-never_falls
returns-clause-never_falls g c = passed_rises _ _ _ c.write_line.ensures c.in_ok-answer.ensures.kept
