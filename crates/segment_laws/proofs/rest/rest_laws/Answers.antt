use Rattle.segment_laws.proofs.OnePlace.{one_place}
use Rattle.segment_laws.proofs.Past.{past_arrives}
use Rattle.segment_laws.proofs.StandingAtRest.{stands_asking}
use Rattle.segment_laws.proofs.rest.rest_laws.Goals as goal

pub returns-clause-asks : goal.returns-clause-asks
returns-clause-asks c = stands_asking

pub returns-clause-one_place : goal.returns-clause-one_place
returns-clause-one_place c = one_place

pub returns-clause-goes_on : goal.returns-clause-goes_on
returns-clause-goes_on c = past_arrives
