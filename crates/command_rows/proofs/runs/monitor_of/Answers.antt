use Rattle.command_rows.proofs.Ranged.{two_small}
use Rattle.command_rows.proofs.runs.monitor_of.Goals as goal
use Rattle.std.proofs.Common.{arith}

pub new-requires-2-clause-small : goal.new-requires-2-clause-small
new-requires-2-clause-small g c = λ resource h. let most = c.requires.few in two_small c.args.setup.chunks c.args.setup.cap 1000000 (omega (arith, most)) c.requires.units resource
