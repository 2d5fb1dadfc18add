use Rattle.segment_run.proofs.Common.{core_of}
use Rattle.segment_run.proofs.Retiring.{retire_rests, retire_waits}
use Rattle.segment_run.proofs.contexts.retire.Goals as goal

pub returns-clause-rests : goal.returns-clause-rests
returns-clause-rests c = λ accepted areas valid is. retire_rests _ accepted.image accepted.certificate accepted.program.well_scoped valid areas (core_of areas.pool c.args.context.now) c.requires.pc is

pub returns-clause-waits : goal.returns-clause-waits
returns-clause-waits c = λ accepted areas waiting globals valid is. retire_waits _ accepted.image accepted.certificate accepted.program.well_scoped valid areas (core_of areas.pool c.args.context.now) waiting globals c.requires.pc is
