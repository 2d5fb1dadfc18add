use Rattle.scheduler.proofs.Common.{None, sym, ◌∙◌, is_of, places_in}
use Rattle.scheduler.proofs.QueueLemmas.{emptied, absent, place_below}
use Rattle.scheduler.proofs.node_queues.NodeQueues.leave.Goals as goal

pub leave_at-requires-clause-place : goal.leave_at-requires-clause-place
leave_at-requires-clause-place c =
    place_below (is_of c.args.choice.now.thread) (places_in c.args.self.now.queues c.args.choice.now.node) None c.in-Some.place (sym c.place_in.ensures ∙ c.in-Some.is)

pub returns-in-Some-clause-queue : goal.returns-in-Some-clause-queue
returns-in-Some-clause-queue c =
    c.leave_at.ensures.queue
    ∙ emptied c.args.choice.now.thread (places_in c.args.self.now.queues c.args.choice.now.node) c.in-Some.place (sym c.place_in.ensures ∙ c.in-Some.is)

pub returns-in_default-clause-queue : goal.returns-in_default-clause-queue
returns-in_default-clause-queue c = absent c.args.choice.now.thread (places_in c.args.self.now.queues c.args.choice.now.node) (sym c.place_in.ensures ∙ c.in_default.is)
