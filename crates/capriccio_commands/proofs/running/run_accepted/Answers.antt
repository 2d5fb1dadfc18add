use Rattle.capriccio_commands.proofs.Common.{subst, accepted_tree, Acceptance, RunsOn, setup_of, RunEnds, IsEnd}
use Rattle.capriccio_commands.proofs.Making.{made-world}
use Rattle.capriccio_commands.proofs.running.run_accepted.Goals as goal

pub run_world-requires-clause-made : goal.run_world-requires-clause-made
run_world-requires-clause-made g c =
    made-world c.args.policy c.args.accepted c.in-Ok.world c.requires.range c.requires.pool c.is_valid.ensures c.in-Ok.ensures

pub returns-in-Ok-clause-ends : goal.returns-in-Ok-clause-ends
returns-in-Ok-clause-ends g c =
    let made = c.in-Ok.ensures in
    let S = g.S.Source in let K = g.K.Sink in
    let a = c.args in
    let P : Acceptance → Type 0 = λ x. RunEnds IsEnd (RunsOn (S.left a.trace.now) (setup_of (accepted_tree x) x.image x.certificate a.policy)) (S.left a.trace.now) (S.left c.run_world.new.trace) (S.faults a.trace.now) (S.faults c.run_world.new.trace)
    (K.taken a.out.now) (K.taken c.run_world.new.out) (K.faults a.out.now) (K.faults c.run_world.new.out) c.run_world.result in
    subst P made.accepted_is c.run_world.ensures.ends
