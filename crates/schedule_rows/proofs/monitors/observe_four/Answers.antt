use Rattle.std.proofs.Common.{arith}
use Rattle.schedule_rows.proofs.Lists.{IsBelow-eight}
use Rattle.schedule_rows.proofs.monitors.observe_four.Goals as goal

pub observe-requires : goal.observe-requires
observe-requires g c =
    rw c.requires.caps
    (λ resource h. (IsBelow-eight 0 c.args.used 0 0 0 0 0 0 0 4 0 0 0 0 0 0
    (omega arith) (omega arith) (omega arith) (omega arith) (omega arith) (omega arith) (omega arith) (omega arith)).each resource)
