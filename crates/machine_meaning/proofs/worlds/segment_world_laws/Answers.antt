use Rattle.machine_meaning.proofs.WorldLaws.{picks, steps}
use Rattle.machine_meaning.proofs.Sound.{under_way_sound}
use Rattle.machine_meaning.proofs.worlds.segment_world_laws.Goals as goal

pub returns-clause-picks : goal.returns-clause-picks
returns-clause-picks c = picks

pub returns-clause-steps : goal.returns-clause-steps
returns-clause-steps c = steps

pub returns-clause-sound : goal.returns-clause-sound
returns-clause-sound c = under_way_sound
