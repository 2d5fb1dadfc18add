use Rattle.report.proofs.Starts.{start_is_between}
use Rattle.report.proofs.again.starting.start_accepted.Goals as goal

pub make_measured-told-requires-clause-between : goal.make_measured-told-requires-clause-between
make_measured-told-requires-clause-between c = start_is_between _ _ _ c.in-Ok.world c.in-Ok.ensures
