use Rattle.schedule_reading.proofs.Common.{subst, ◌≡◌, ThreadId, Need, is_met, ThreadsState, Vouches, is_ready_in, waits_for}
use Rattle.schedule_reading.proofs.Telling.{arrival_for, met_for}
use Rattle.schedule_reading.proofs.threads.ThreadsBounded.bounds.Goals as goal

pub returns-clause-ready : goal.returns-clause-ready
returns-clause-ready c =
    subst (λ (t : ThreadsState). (thread : ThreadId) → (need : Need) → Vouches t thread need → is_ready_in t thread ≡ is_met c.bounds.result need) c.self.view_is
    (λ thread need vouched. met_for c.self.inside.exchange.caps c.self.inside.exchange.exchange c.self.inside.waits.clock c.bounds.result need c.self.inside.slots c.self.inside.waits.places thread vouched (λ place wait at. c.bounds.ensures place wait at))

pub returns-clause-at_accept : goal.returns-clause-at_accept
returns-clause-at_accept c = λ thread need vouched. arrival_for need (waits_for c.args.self.now thread) vouched
