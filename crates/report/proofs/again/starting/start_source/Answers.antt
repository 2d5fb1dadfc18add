use Rattle.std.proofs.Common.{◌≤◌, ◌+◌, ◌*◌, None, sym, subst}
use Rattle.report.proofs.again.starting.start_source.Goals as goal

pub start_accepted-requires-clause-pool : goal.start_accepted-requires-clause-pool
start_accepted-requires-clause-pool g c =
    let is = c.in-Ok.ensures.answer None c.args.policy in
    subst (λ n. c.args.policy.chunks * n + c.args.policy.extra * c.args.policy.extra_bytes ≤ 67108864) (sym is.1) c.requires.pool

pub start_accepted-requires-clause-range : goal.start_accepted-requires-clause-range
start_accepted-requires-clause-range g c = c.requires.range

pub accept_source-requires : goal.accept_source-requires
accept_source-requires g c = c.requires.sizes
