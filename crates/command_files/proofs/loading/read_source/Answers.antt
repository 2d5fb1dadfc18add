use Rattle.command_files.proofs.loading.read_source.Goals as goal

pub returns-in-Ok : goal.returns-in-Ok
returns-in-Ok c = record { reads = c.in-Ok.ensures.program; scoped = c.in-Ok.program.well_scoped }
