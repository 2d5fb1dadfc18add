use Rattle.std.proofs.Common.{arith}
use Rattle.schedule_rows.proofs.Lists.{IsBelow-eight}
use Rattle.schedule_rows.proofs.monitors.observe_two.Goals as goal

pub observe-requires : goal.observe-requires
observe-requires g c =
    rw c.requires.caps
    (λ resource h. (IsBelow-eight 0 c.args.first c.args.second 0 0 0 0 0 0 10 3 0 0 0 0 0
    (omega arith) (omega arith) (omega arith) (omega arith) (omega arith) (omega arith) (omega arith) (omega arith)).each resource)
