use Rattle.command_options.proofs.Options.{serve-sizes, serve-policy, serve-pool, run-policy}
use Rattle.report.proofs.again.starting.start_command.Goals as goal

pub start_source-requires-clause-sizes : goal.start_source-requires-clause-sizes
start_source-requires-clause-sizes g c =
    let asked = rw c.in-Serve.is at c.requires.1 in
    serve-sizes c.requires.0 c.in-Serve.source.now c.in-Serve.placement c.in-Serve.policy asked

pub start_source-requires-clause-range : goal.start_source-requires-clause-range
start_source-requires-clause-range g c =
    let asked = rw c.in-Serve.is at c.requires.1 in
    serve-policy c.requires.0 c.in-Serve.source.now c.in-Serve.placement c.in-Serve.policy asked

pub start_source-requires-clause-pool : goal.start_source-requires-clause-pool
start_source-requires-clause-pool g c =
    let asked = rw c.in-Serve.is at c.requires.1 in
    serve-pool c.requires.0 c.in-Serve.source.now c.in-Serve.placement c.in-Serve.policy asked

pub start_files-requires : goal.start_files-requires
start_files-requires g c =
    let asked = rw c.in-Run.is at c.requires.1 in
    run-policy c.requires.0 c.in-Run.source.now c.in-Run.image.now c.in-Run.certificate.now c.in-Run.policy asked
