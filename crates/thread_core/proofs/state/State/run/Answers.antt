use Rattle.thread_core.proofs.Common.{Option, Some, subst, OnTold, Turn}
use Rattle.thread_core.proofs.Joining.{again, going_on}
use Rattle.thread_core.proofs.state.State.run.Goals as goal

pub returns-in-Some : goal.returns-in-Some
returns-in-Some c = again c.args.accepted.now c.args.most c.args.thread c.args.self.now c.loop-turn.self c.run_on.new.self (Some c.in-Some.turn) c.loop-turn.invariant
    (subst (λ (o : Option Turn). OnTold c.args.accepted.now c.args.most c.args.thread c.loop-turn.self o c.run_on.new.self) c.in-Some.is c.run_on.ensures.told)

pub loop-turn-preserved : goal.loop-turn-preserved
loop-turn-preserved c = going_on c.args.accepted.now c.args.most c.args.thread c.args.self.now c.loop-turn.self c.run_on.new.self c.loop-turn.invariant
    (subst (λ (o : Option Turn). OnTold c.args.accepted.now c.args.most c.args.thread c.loop-turn.self o c.run_on.new.self) c.in_default.is c.run_on.ensures.told)
