use Rattle.std.proofs.Common.{arith}
use Rattle.chunk_pool.specs.Pool.{after_give}
use Rattle.machine_rows.proofs.PoolRows.{two_dry, taken-dry, give-known, held-known, below-known, held-0, held-1}
use Rattle.machine_rows.proofs.pools.gives_back.Goals as goal

pub give-requires : goal.give-requires
give-requires c =
    let dry = taken-dry c.in_ok-pool.pool c.take-first.new.self c.take-second.new.self c.take-third.new.self c.take-first.result c.take-second.result c.take-third.result
    c.in_ok-pool.ensures.start c.take-first.ensures.taken c.take-second.ensures.taken c.take-third.ensures.taken in
    held-known two_dry c.take-third.new.self 0 dry held-0

pub give-requires-2 : goal.give-requires-2
give-requires-2 c =
    let dry = taken-dry c.in_ok-pool.pool c.take-first.new.self c.take-second.new.self c.take-third.new.self c.take-first.result c.take-second.result c.take-third.result
    c.in_ok-pool.ensures.start c.take-first.ensures.taken c.take-second.ensures.taken c.take-third.ensures.taken in
    held-known (after_give two_dry 0) c.give.new.self 1 (give-known two_dry c.take-third.new.self c.give.new.self 0 dry c.give.ensures.after) held-1

pub link-requires-2 : goal.link-requires-2
link-requires-2 c =
    let dry = taken-dry c.in_ok-pool.pool c.take-first.new.self c.take-second.new.self c.take-third.new.self c.take-first.result c.take-second.result c.take-third.result
    c.in_ok-pool.ensures.start c.take-first.ensures.taken c.take-second.ensures.taken c.take-third.ensures.taken in
    let given = give-known two_dry c.take-third.new.self c.give.new.self 0 dry c.give.ensures.after in
    below-known (after_give (after_give two_dry 0) 1) c.give-2.new.self 1 (give-known (after_give two_dry 0) c.give.new.self c.give-2.new.self 1 given c.give-2.ensures.after) (omega arith)
