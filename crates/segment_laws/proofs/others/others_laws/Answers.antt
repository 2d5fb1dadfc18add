use Rattle.segment_laws.proofs.OtherThreads.{segment_keeps, start_keeps, replaced_twice, replaced_gone, replaced_joined}
use Rattle.segment_laws.proofs.others.others_laws.Goals as goal

pub returns-clause-segment : goal.returns-clause-segment
returns-clause-segment c = segment_keeps

pub returns-clause-start : goal.returns-clause-start
returns-clause-start c = start_keeps

pub returns-clause-twice : goal.returns-clause-twice
returns-clause-twice c = replaced_twice

pub returns-clause-gone : goal.returns-clause-gone
returns-clause-gone c = replaced_gone

pub returns-clause-joined : goal.returns-clause-joined
returns-clause-joined c = replaced_joined
