use Rattle.std.proofs.Common.{arith}
use Rattle.capriccio_commands.proofs.summaries.summary.Goals as goal

pub summary_of-requires : goal.summary_of-requires
summary_of-requires c = let room = c.tally_log-tally.ensures.room in let cost = room.cost in omega (arith, cost)
