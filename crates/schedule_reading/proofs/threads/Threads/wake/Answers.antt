use Rattle.schedule_reading.proofs.Common.{subst, IsWake, ThreadsState}
use Rattle.schedule_reading.proofs.threads.Threads.wake.Goals as goal

pub returns : goal.returns
returns c = subst (λ (t : ThreadsState). IsWake t.exchange.caps t.exchange.exchange t.waits c.wake.result) c.self.view_is c.wake.ensures
