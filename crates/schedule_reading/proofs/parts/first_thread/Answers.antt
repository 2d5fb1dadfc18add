use Rattle.std.proofs.Common.{arith}
use Rattle.schedule_reading.proofs.Starting.{none_vacant}
use Rattle.schedule_reading.proofs.parts.first_thread.Goals as goal

pub add-added-requires-clause-live : goal.add-added-requires-clause-live
add-added-requires-clause-live c = let none = c.in_ok-threads.ensures.live in omega (arith, none)

pub add-added-requires-clause-next : goal.add-added-requires-clause-next
add-added-requires-clause-next c = let none = c.in_ok-threads.ensures.next in omega (arith, none)

pub add-added-requires-clause-vacant : goal.add-added-requires-clause-vacant
add-added-requires-clause-vacant c = none_vacant c.args.backlog c.args.caps c.in_ok-threads.threads c.in_ok-threads.ensures
