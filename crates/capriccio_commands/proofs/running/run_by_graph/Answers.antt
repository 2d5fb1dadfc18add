use Rattle.capriccio_commands.proofs.Common.{Outside, by_graph, setup_in}
use Rattle.capriccio_commands.proofs.Making.{at-start, made-accepted, world-of}
use Rattle.capriccio_commands.proofs.FitCounting.{closed-fits}
use Rattle.capriccio_commands.proofs.Stopped.{closed}
use Rattle.capriccio_commands.proofs.running.run_by_graph.Goals as goal

pub run-end-requires : goal.run-end-requires
run-end-requires g c = (setup_in c.args.world c.args.policy, at-start c.args.policy c.args.world c.requires.made by_graph c.args.monitor c.requires.rule c.requires.monitor)

pub returns-clause-ends : goal.returns-clause-ends
returns-clause-ends g c = λ files files' loads loads' stores stores' keeps same again.
    let a = c.args in
    let setup = setup_in a.world a.policy in
    let start = at-start a.policy a.world c.requires.made by_graph a.monitor c.requires.rule c.requires.monitor in
    let S = g.S.Source in let K = g.K.Sink in
    let before : Outside = record { files = files; loads = loads; stores = stores; left = S.left a.trace.now; reads = S.faults a.trace.now; taken = K.taken a.out.now; writes = K.faults a.out.now } in
    let after : Outside = record { files = files'; loads = loads'; stores = stores'; left = S.left c.run-end.new.trace; reads = S.faults c.run-end.new.trace; taken = K.taken c.run-end.new.out; writes = K.faults c.run-end.new.out } in
    closed setup before after c.run-end.new.world c.run-end.result c.close.result (made-accepted a.policy a.world c.requires.made) keeps same again
    (world-of a.policy a.world c.requires.made c.run-end.new.world c.run-end.ensures.keeps) (c.run-end.ensures.answer setup start) c.close.ensures

pub returns-clause-fits : goal.returns-clause-fits
returns-clause-fits g c =
    let a = c.args in
    let setup = setup_in a.world a.policy in
    let start = at-start a.policy a.world c.requires.made by_graph a.monitor c.requires.rule c.requires.monitor in
    let S = g.S.Source in let K = g.K.Sink in
    closed-fits setup c.run-end.new.world (S.left a.trace.now) (K.taken a.out.now) (K.taken c.run-end.new.out) (S.faults a.trace.now) (S.faults c.run-end.new.trace) (K.faults a.out.now) (K.faults c.run-end.new.out) c.close.result
    c.run-end.result (c.run-end.ensures.answer setup start) c.close.ensures
