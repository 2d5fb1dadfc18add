use Rattle.schedule_log.proofs.LogLines.{no_line_feed, log_lines}
use Rattle.schedule_log.proofs.laws.log_lines_are_entries.Goals as goal

pub returns-clause-no_line_feed : goal.returns-clause-no_line_feed
returns-clause-no_line_feed c = no_line_feed

pub returns-clause-lines : goal.returns-clause-lines
returns-clause-lines c = log_lines
