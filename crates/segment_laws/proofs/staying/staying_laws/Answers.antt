use Rattle.segment_laws.proofs.Frames.{frames_law}
use Rattle.segment_laws.proofs.SameRest.{rests_law, answered_law}
use Rattle.segment_laws.proofs.staying.staying_laws.Goals as goal

pub returns-clause-frames : goal.returns-clause-frames
returns-clause-frames c = frames_law

pub returns-clause-rests : goal.returns-clause-rests
returns-clause-rests c = rests_law

pub returns-clause-answered : goal.returns-clause-answered
returns-clause-answered c = answered_law
