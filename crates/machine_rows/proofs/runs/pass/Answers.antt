use Rattle.std.proofs.Common.{ap}
use Rattle.segment_run.specs.Contexts.{checked_of, code_of, local_of}
use Rattle.segment_run.specs.Passing.{RestsBehind}
use Rattle.segment_run.specs.declared.contexts.Context.{Context}
use Rattle.machine_rows.proofs.Standing.{before, small, owned_still, ready}
use Rattle.machine_rows.proofs.runs.pass.Goals as goal

pub retire-requires-clause-pc : goal.retire-requires-clause-pc
retire-requires-clause-pc c = small c.args.accepted.now (local_of c.args.areas.now c.args.context.now) c.requires.stands.0 c.is_valid.ensures c.requires.stands.1

pub returns-in_default : goal.returns-in_default
returns-in_default c =
    let accepted = c.args.accepted.now in
    let areas = c.args.areas.now in
    let behind : RestsBehind (checked_of accepted) (code_of accepted) (local_of areas c.retire.new.context) =
    c.retire.ensures.rests accepted areas c.is_valid.ensures (before (checked_of accepted) (local_of areas c.args.context.now) c.requires.stands.0 c.requires.stands.1) in
    ready accepted areas c.retire.new.context
    (owned_still areas c.args.context.now c.retire.new.context (ap (λ (x : Context). x.chunk) c.retire.ensures.passed) (ap (λ (x : Context). x.depth) c.retire.ensures.passed) c.requires.owned) behind

pub returns-in-Some : goal.returns-in-Some
returns-in-Some c =
    let accepted = c.args.accepted.now in
    let areas = c.args.areas.now in
    let behind : RestsBehind (checked_of accepted) (code_of accepted) (local_of areas c.retire.new.context) =
    c.retire.ensures.rests accepted areas c.is_valid.ensures (before (checked_of accepted) (local_of areas c.args.context.now) c.requires.stands.0 c.requires.stands.1) in
    ready accepted areas c.reply.new.context
    (owned_still areas c.retire.new.context c.reply.new.context (ap (λ (x : Context). x.chunk) c.reply.ensures.result) (ap (λ (x : Context). x.depth) c.reply.ensures.result)
    (owned_still areas c.args.context.now c.retire.new.context (ap (λ (x : Context). x.chunk) c.retire.ensures.passed) (ap (λ (x : Context). x.depth) c.retire.ensures.passed) c.requires.owned))
    (c.reply.ensures.rests accepted areas behind)
