use Rattle.machine_meaning.proofs.WorldLaws.{somewhere}
use Rattle.machine_meaning.proofs.BetweenSegments.{advanced_law, delivered_law, starts_law}
use Rattle.machine_meaning.proofs.Sound.{settled_sound}
use Rattle.machine_meaning.proofs.outside.outside_laws.Goals as goal

pub returns-clause-starts : goal.returns-clause-starts
returns-clause-starts c = starts_law

pub returns-clause-delivered : goal.returns-clause-delivered
returns-clause-delivered c = delivered_law

pub returns-clause-advanced : goal.returns-clause-advanced
returns-clause-advanced c = advanced_law

pub returns-clause-somewhere : goal.returns-clause-somewhere
returns-clause-somewhere c = somewhere

pub returns-clause-sound : goal.returns-clause-sound
returns-clause-sound c = settled_sound
