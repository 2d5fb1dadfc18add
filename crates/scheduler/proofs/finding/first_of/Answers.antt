use Rattle.scheduler.proofs.Common.{is_eligible}
use Rattle.scheduler.proofs.finding.first_of.Goals as goal

pub returns : goal.returns
returns g c =
    let test = is_eligible (g.R.Ready.is_ready c.args.ready.now) (g.R.Ready.at_accept c.args.ready.now) (g.R.Ready.any_elsewhere c.args.ready.now) c.args.gate_open in
    c.found_at.ensures test c.first_asked.ensures
