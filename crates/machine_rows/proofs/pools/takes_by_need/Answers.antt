use Rattle.std.proofs.Common.{◌≡◌, arith}
use Rattle.chunk_pool.specs.Pool.{after_give}
use Rattle.machine_rows.proofs.PoolRows.{four_dry, taken-by_need, give-known, held-known, below-known, four-0, four-3, four-2}
use Rattle.machine_rows.proofs.pools.takes_by_need.Goals as goal
use Rattle.machine_rows.proofs.pools.takes_by_need.Goals.{After-take-6, After-give-3}

-- six takes leave no free chunk
dry : (c : After-take-6) → c.take-6.new.self ≡ four_dry
dry c = taken-by_need c.in_ok-pool.pool c.take.new.self c.take-2.new.self c.take-3.new.self c.take-4.new.self c.take-5.new.self c.take-6.new.self
    c.take.result c.take-2.result c.take-3.result c.take-4.result c.take-5.result c.take-6.result c.in_ok-pool.ensures.start
    c.take.ensures.taken c.take-2.ensures.taken c.take-3.ensures.taken c.take-4.ensures.taken c.take-5.ensures.taken c.take-6.ensures.taken

pub give-requires : goal.give-requires
give-requires c = held-known four_dry c.take-6.new.self 0 (dry (goal.at.give-requires c).After-take-6) four-0

pub give-requires-2 : goal.give-requires-2
give-requires-2 c =
    let one = give-known four_dry c.take-6.new.self c.give.new.self 0 (dry (goal.at.give-requires-2 c).After-take-6) c.give.ensures.after in
    held-known (after_give four_dry 0) c.give.new.self 3 one four-3

pub give-requires-3 : goal.give-requires-3
give-requires-3 c =
    let one = give-known four_dry c.take-6.new.self c.give.new.self 0 (dry (goal.at.give-requires-3 c).After-take-6) c.give.ensures.after in
    let second = give-known (after_give four_dry 0) c.give.new.self c.give-2.new.self 3 one c.give-2.ensures.after in
    held-known (after_give (after_give four_dry 0) 3) c.give-2.new.self 2 second four-2

-- then three chunks are given back
given : (c : After-give-3) → c.take-6.new.self ≡ four_dry → c.give-3.new.self ≡ after_give (after_give (after_give four_dry 0) 3) 2
given c dry =
    let one = give-known four_dry c.take-6.new.self c.give.new.self 0 dry c.give.ensures.after in
    let second = give-known (after_give four_dry 0) c.give.new.self c.give-2.new.self 3 one c.give-2.ensures.after in
    give-known (after_give (after_give four_dry 0) 3) c.give-2.new.self c.give-3.new.self 2 second c.give-3.ensures.after

pub link-requires-2 : goal.link-requires-2
link-requires-2 c =
    let at = goal.at.link-requires-2 c in
    below-known (after_give (after_give (after_give four_dry 0) 3) 2) c.give-3.new.self 3 (given at.After-give-3 (dry at.After-take-6)) (omega arith)

pub link-requires-3 : goal.link-requires-3
link-requires-3 c =
    let at = goal.at.link-requires-3 c in
    below-known (after_give (after_give (after_give four_dry 0) 3) 2) c.give-3.new.self 2 (given at.After-give-3 (dry at.After-take-6)) (omega arith)
