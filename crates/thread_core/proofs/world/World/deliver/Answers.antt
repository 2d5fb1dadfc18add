use Rattle.thread_core.proofs.Common.{◌≡◌, None, Some, sym, ap, ◌∙◌, Message, machine_of, setting_of, delivered}
use Rattle.thread_core.proofs.OutsideLaws.{IsMoved, delivered_moved, between_is, come_between, between_come}
use Rattle.thread_core.proofs.world.World.deliver.Goals as goal

pub invariant_of-self-in-Message : goal.invariant_of-self-in-Message
invariant_of-self-in-Message c =
    let between : c.self.inside.state.running ≡ None = between_is c.self.inside.state.running (ap (λ h. h.machine.running) c.self.view_is ∙ c.requires.between) in
    let moved : IsMoved c.self.inside.accepted c.self.inside.most (record c.self.inside.state { exchange = c.send-queued.new.self })
    (delivered (setting_of c.self.inside.accepted c.self.inside.most c.self.inside.state) (machine_of c.self.inside.most c.self.inside.state) (Message c.in-Message.channel c.word-in-Message.result)) =
    delivered_moved c.self.inside.accepted c.self.inside.most c.self.inside.state c.self.invariant.state between
    (come_between c.self.inside.accepted c.self.inside.most c.self.inside.state c.self.inside.state.running between c.self.invariant.come) (Message c.in-Message.channel c.word-in-Message.result) c.word-in-Message.type_inv c.send-queued.new.self c.send-queued.ensures.after in
    record {
      chunks = c.self.invariant.chunks;
      state = moved.kept;
      come = between_come c.self.inside.accepted c.self.inside.most (record c.self.inside.state { exchange = c.send-queued.new.self }) c.self.inside.state.running between moved.settled;
      ready = λ thread r e. absurd (let x : None ≡ Some thread = sym between ∙ e in cc);
      stopped = c.self.invariant.stopped;
    }
