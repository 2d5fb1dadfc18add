use Rattle.segment_run.proofs.Common.{accepted_tree, checked_of, code_of, core_of}
use Rattle.segment_run.proofs.Retiring.{reply_rests, reply_waits}
use Rattle.segment_run.proofs.contexts.reply.Goals as goal

pub returns-clause-rests : goal.returns-clause-rests
returns-clause-rests c = λ accepted areas is. reply_rests (checked_of accepted) (code_of accepted) areas (core_of areas.pool c.args.context.now) _ is

pub returns-clause-waits : goal.returns-clause-waits
returns-clause-waits c = λ accepted areas waiting globals is. reply_waits (checked_of accepted) (accepted_tree accepted) areas (core_of areas.pool c.args.context.now) _ waiting globals is
