use Rattle.std.proofs.Common.{◌<◌, length, arith, rules}
use Rattle.std.proofs.lemmas.Grind.{common_steps}
use Rattle.thread_exchange.proofs.Sent.{sent, dropped}
use Rattle.thread_exchange.proofs.exchange.Exchange.send.Goals as goal
use Rattle.thread_exchange.proofs.exchange.Exchange.send.Goals.{in-Ok, in-Err}

pub returns-clause-after : goal.returns-clause-after
returns-clause-after c =
    let h : c.args.channel < length c.self.inside.channels.items = omega (arith, c.self.invariant.count) in
    rw (← c.self.view_is) (elim c.match-try_push_back.branch [
      | in-Ok w ↦ sent c.self.inside c.args.channel c.args.value c.index_mut-queue.result.now c.try_push_back.new.self c.self.invariant h c.index_mut-queue.ensures.value (search rules) w.in-Ok.ensures.ok
      | in-Err w ↦ dropped c.self.inside c.args.channel c.args.value c.index_mut-queue.result.now c.try_push_back.new.self c.self.invariant h c.index_mut-queue.ensures.value (grind (arith, common_steps)) (w.in-Err.ensures.err.1)
    ])
