use Rattle.std.proofs.Common.{arith}
use Rattle.schedule_rows.proofs.Lists.{small_eight}
use Rattle.schedule_rows.proofs.monitors.monitor_of.Goals as goal

pub new-requires-clause-small : goal.new-requires-clause-small
new-requires-clause-small g c = λ resource h. small_eight c.args.first c.args.second (omega arith) (omega arith) resource
