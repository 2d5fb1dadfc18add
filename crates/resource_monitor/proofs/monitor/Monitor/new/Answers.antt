use Rattle.std.proofs.Common.{arith, rules}
use Rattle.resource_monitor.proofs.MonitorLemmas.{IsMonitor-started}
use Rattle.resource_monitor.proofs.monitor.Monitor.new.Goals as goal

pub invariant_of-result : goal.invariant_of-result
invariant_of-result g c =
    IsMonitor-started c.args.gauges.items c.args.caps c.args.high c.args.low (omega (arith, c.requires.eight)) (search rules)
    (rw c.as_slice.ensures.value at c.know_ranges.ensures) c.requires.small c.requires.apart c.requires.most
