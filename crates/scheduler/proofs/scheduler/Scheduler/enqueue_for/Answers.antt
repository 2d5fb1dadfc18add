use Rattle.std.proofs.Common.{arith, refl}
use Rattle.scheduler.proofs.StateLemmas.{state_of, joined_of, told_of}
use Rattle.scheduler.proofs.scheduler.Scheduler.enqueue_for.Goals as goal

pub returns-in-Ok-clause-told : goal.returns-in-Ok-clause-told
returns-in-Ok-clause-told c =
    rw (← c.self.view_is)
    (told_of c.self.inside.queues.queues c.join.new.self.queues c.self.inside.lasts.items c.make_place.new.lasts.items c.self.inside.noted c.args.node (record { thread = c.args.thread; need = c.args.need })
    c.self.invariant.placed (omega (arith, c.make_place.ensures.longer)) (omega (arith, c.in_ok-make_place.ensures.place))
    c.in-Ok.ensures.queue c.join.ensures.others c.join.ensures.nodes)

pub returns-in-Ok-clause-ok : goal.returns-in-Ok-clause-ok
returns-in-Ok-clause-ok c =
    rw (← c.self.view_is)
    (joined_of (state_of c.self.inside.queues.queues c.self.inside.lasts.items c.self.inside.noted) (state_of c.join.new.self.queues c.make_place.new.lasts.items c.self.inside.noted) c.args.node (record { thread = c.args.thread; need = c.args.need })
    (told_of c.self.inside.queues.queues c.join.new.self.queues c.self.inside.lasts.items c.make_place.new.lasts.items c.self.inside.noted c.args.node (record { thread = c.args.thread; need = c.args.need })
    c.self.invariant.placed (omega (arith, c.make_place.ensures.longer)) (omega (arith, c.in_ok-make_place.ensures.place))
    c.in-Ok.ensures.queue c.join.ensures.others c.join.ensures.nodes)
    c.make_place.ensures.same refl)
