use Rattle.std.proofs.Common.{length}
use Rattle.scheduler.proofs.ChoiceLemmas.{lawful-queued}
use Rattle.scheduler.proofs.StateLemmas.{lawful_by_queues, queue_at}
use Rattle.scheduler.proofs.scheduler.Scheduler.choose.Goals as goal

pub returns-clause-lawful : goal.returns-clause-lawful
returns-clause-lawful g c =
    rw (← c.self.view_is, c.as_choice.ensures)
    (lawful_by_queues _ _ _ _ _ _ (queue_at c.self.inside.queues.queues (length c.self.inside.lasts.items) c.self.invariant.placed)
    (rw c.as_slice.ensures.value at c.best_of-best.ensures))

pub returns-clause-queued : goal.returns-clause-queued
returns-clause-queued g c = lawful-queued _ _ _ _ c.as_choice.result (returns-clause-lawful g c)
