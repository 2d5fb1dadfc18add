use Rattle.c_mean.proofs.SegmentLemmas.{silent, asks_in_world, stops_in_world}
use Rattle.c_mean.proofs.laws.segments_run_threads.Goals as goal

pub returns-clause-silent : goal.returns-clause-silent
returns-clause-silent c = silent

pub returns-clause-asks : goal.returns-clause-asks
returns-clause-asks c = asks_in_world

pub returns-clause-stops : goal.returns-clause-stops
returns-clause-stops c = stops_in_world
