use Rattle.std.proofs.Common.{None}
use Rattle.report.proofs.again.starting.start_files.Goals as goal

pub start_accepted-requires-clause-pool : goal.start_accepted-requires-clause-pool
start_accepted-requires-clause-pool g c = let is = c.in-Ok.ensures.answer None in is.1

pub start_accepted-requires-clause-range : goal.start_accepted-requires-clause-range
start_accepted-requires-clause-range g c = c.requires

pub accept_files-requires : goal.accept_files-requires
accept_files-requires g c = c.requires
