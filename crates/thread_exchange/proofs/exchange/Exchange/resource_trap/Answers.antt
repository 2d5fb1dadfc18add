use Rattle.std.proofs.Common.{arith}
use Rattle.std.proofs.lemmas.Grind.{common_steps}
use Rattle.thread_exchange.proofs.ResourceLaws.{trap_past}
use Rattle.thread_exchange.proofs.exchange.Exchange.resource_trap.Goals as goal

pub returns-then-resource-ge8 : goal.returns-then-resource-ge8
returns-then-resource-ge8 c = grind (arith, common_steps, trap_past)
