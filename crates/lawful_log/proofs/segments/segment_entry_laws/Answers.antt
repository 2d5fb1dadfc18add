use Rattle.lawful_log.proofs.Entries.{puts_here, blocks_here, ends_here, stops_here}
use Rattle.lawful_log.proofs.Within.{within_goes, within_spawns}
use Rattle.lawful_log.proofs.segments.segment_entry_laws.Goals as goal

pub returns-clause-goes : goal.returns-clause-goes
returns-clause-goes c = λ g state segment begun here after waiting is e. within_goes g state segment begun here waiting is after e

pub returns-clause-spawns : goal.returns-clause-spawns
returns-clause-spawns c = λ g state segment begun here waiting number after is e. within_spawns g state segment begun here waiting is number after e

pub returns-clause-puts : goal.returns-clause-puts
returns-clause-puts c = puts_here

pub returns-clause-blocks : goal.returns-clause-blocks
returns-clause-blocks c = blocks_here

pub returns-clause-ends : goal.returns-clause-ends
returns-clause-ends c = ends_here

pub returns-clause-stops : goal.returns-clause-stops
returns-clause-stops c = stops_here
