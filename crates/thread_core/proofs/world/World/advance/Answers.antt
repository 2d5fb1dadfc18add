use Rattle.thread_core.proofs.Common.{◌≡◌, ◌≤◌, Some, None, sym, ap, ◌∙◌, machine_of, advanced}
use Rattle.thread_core.proofs.OutsideLaws.{IsMoved, advanced_moved, between_is, come_between, between_come}
use Rattle.thread_core.proofs.world.World.advance.Goals as goal

pub invariant_of-self : goal.invariant_of-self
invariant_of-self c =
    let between : c.self.inside.state.running ≡ None = between_is c.self.inside.state.running (ap (λ h. h.machine.running) c.self.view_is ∙ c.requires.between) in
    let later : c.self.inside.state.waits.clock ≤ c.args.to = rw (← c.self.view_is) at c.requires.later in
    let moved : IsMoved c.self.inside.accepted c.self.inside.most (record c.self.inside.state { waits = c.advance.new.self }) (advanced (machine_of c.self.inside.most c.self.inside.state) c.args.to) =
    advanced_moved c.self.inside.accepted c.self.inside.most c.self.inside.state c.self.invariant.state between
    (come_between c.self.inside.accepted c.self.inside.most c.self.inside.state c.self.inside.state.running between c.self.invariant.come) c.args.to later c.requires.possible c.advance.new.self c.advance.ensures in
    record {
      chunks = c.self.invariant.chunks;
      state = moved.kept;
      come = between_come c.self.inside.accepted c.self.inside.most (record c.self.inside.state { waits = c.advance.new.self }) c.self.inside.state.running between moved.settled;
      ready = λ thread r e. absurd (let x : None ≡ Some thread = sym between ∙ e in cc);
      stopped = c.self.invariant.stopped;
    }
