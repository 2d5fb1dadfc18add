use Rattle.std.proofs.Common.{◌≡◌, arith, count_by}
use Rattle.std.proofs.Common.{sym}
use Rattle.thread_waits.proofs.Common.{is_ready_always, is_ready_anyway}
use Rattle.thread_waits.proofs.AnyLaws.{any_from_count}
use Rattle.thread_waits.proofs.SleepLaws.{past_least}
use Rattle.thread_waits.proofs.TimeLaws.{always_ready}
use Rattle.thread_waits.proofs.waits.Waits.any_anyway.Goals as goal

pub returns-then-self-gt0 : goal.returns-then-self-gt0
returns-then-self-gt0 c =
    rw (← c.self.view_is)
    (sym (any_from_count is_ready_always (is_ready_anyway c.self.inside.clock) (always_ready c.self.inside.clock) c.self.inside.places.items (rw (← c.self.invariant.ready_always) c.if-self-gt0.true)))

pub returns : goal.returns
returns c =
    let none : count_by is_ready_always c.self.inside.places.items ≡ 0 = rw (← c.self.invariant.ready_always) (omega arith) in
    rw (← c.self.view_is)
    (past_least c.self.inside.clock c.self.invariant.clock c.self.inside.places.items c.self.inside.sleepers c.least.result none c.self.invariant.sleepers c.least.ensures)
