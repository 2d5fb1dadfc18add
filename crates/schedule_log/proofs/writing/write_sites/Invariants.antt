use Rattle.schedule_log.proofs.Common.{take, more_sites, Writes, log_state}
use Rattle.schedule_log.proofs.writing.write_sites.Given as goal

abbrev pub invariant-loop-site : goal.invariant-loop-site
invariant-loop-site g l =
    Writes (log_state l.fn.writer (g.K.Sink.taken l.fn.out) (g.K.Sink.faults l.fn.out))
    (log_state l.writer (g.K.Sink.taken l.out) (g.K.Sink.faults l.out)) (more_sites (take l.site-index l.sites))
