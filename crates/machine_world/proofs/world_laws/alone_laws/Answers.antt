use Rattle.machine_world.proofs.Common.{◌≡◌, refl, cond_both, LeavesOtherQueues, is_dropped, with_delivery, World}
use Rattle.machine_world.proofs.ActionLaws.{LeavesOtherQueues-self, LeavesOtherQueues-with_delivery}
use Rattle.machine_world.proofs.AloneLaws.{KeepsChunk-step}
use Rattle.machine_world.proofs.OtherThreads.{KeepsThread-step}
use Rattle.machine_world.proofs.world_laws.alone_laws.Goals as goal

pub returns-clause-chunks : goal.returns-clause-chunks
returns-clause-chunks c = KeepsChunk-step

pub returns-clause-threads : goal.returns-clause-threads
returns-clause-threads c = KeepsThread-step

pub returns-clause-delivery : goal.returns-clause-delivery
returns-clause-delivery c s w delivery =
    cond_both (is_dropped s.backlog w.exchange delivery) w (record w { exchange = with_delivery w.exchange delivery }) (λ (after : World). after ≡ record w { exchange = after.exchange })
    (λ _. refl)
    (λ _. refl)

pub returns-clause-queues : goal.returns-clause-queues
returns-clause-queues c s w delivery =
    cond_both (is_dropped s.backlog w.exchange delivery) w (record w { exchange = with_delivery w.exchange delivery }) (λ (after : World). LeavesOtherQueues w.exchange delivery after.exchange)
    (λ _. LeavesOtherQueues-self w.exchange delivery)
    (λ _. LeavesOtherQueues-with_delivery w.exchange delivery)
