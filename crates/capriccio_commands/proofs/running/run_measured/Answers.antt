use Rattle.capriccio_commands.proofs.Common.{RunsOn, setup_in, memory-before, IsEnd}
use Rattle.capriccio_commands.proofs.running.run_measured.Goals as goal

pub returns-in-Err-clause-ends : goal.returns-in-Err-clause-ends
returns-in-Err-clause-ends g c =
    rw c.failed.ensures
    (memory-before IsEnd (RunsOn (g.S.Source.left c.args.trace.now) (setup_in c.args.world c.args.policy)) (g.S.Source.left c.args.trace.now) (g.S.Source.faults c.args.trace.now) (g.K.Sink.taken c.args.out.now) (g.K.Sink.faults c.args.out.now))
