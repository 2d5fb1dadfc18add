use Rattle.std.proofs.Common.{◌<◌, ◌+◌, length, set, length-set, rules, refl}
use Rattle.scheduler.proofs.StateLemmas.{state_of, queue_at, node-placed, noted_from, taken_of}
use Rattle.scheduler.proofs.scheduler.Scheduler.note_choice.Goals as goal

pub index_mut-requires : goal.index_mut-requires
index_mut-requires c =
    let queued = rw (← c.self.view_is, queue_at c.self.inside.queues.queues (length c.self.inside.lasts.items) c.self.invariant.placed c.args.choice.now.node) at c.requires.queued in
    let at : c.args.choice.now.node < length c.self.inside.lasts.items =
    node-placed c.self.inside.queues.queues (length c.self.inside.lasts.items) c.args.choice.now.node c.args.choice.now.thread c.self.invariant.placed queued in
    search rules

pub returns : goal.returns
returns c =
    let queued = rw (← c.self.view_is, queue_at c.self.inside.queues.queues (length c.self.inside.lasts.items) c.self.invariant.placed c.args.choice.now.node) at c.requires.queued in
    let lt : c.args.choice.now.node < length c.self.inside.lasts.items =
    node-placed c.self.inside.queues.queues (length c.self.inside.lasts.items) c.args.choice.now.node c.args.choice.now.thread c.self.invariant.placed queued in
    let lasts = set c.self.inside.lasts.items c.args.choice.now.node (c.self.inside.noted + 1) in
    rw (← c.self.view_is)
    (noted_from c.args.choice.now (state_of c.self.inside.queues.queues c.self.inside.lasts.items c.self.inside.noted) (state_of c.leave.new.self.queues lasts (c.self.inside.noted + 1))
    (taken_of c.args.choice.now c.self.inside.queues.queues c.leave.new.self.queues c.self.inside.lasts.items lasts c.self.inside.noted (c.self.inside.noted + 1) c.self.invariant.placed
    (length-set c.self.inside.lasts.items c.args.choice.now.node (c.self.inside.noted + 1)) c.leave.ensures.queue c.leave.ensures.others c.leave.ensures.nodes)
    lt refl refl)
