use Rattle.blocking_graph.proofs.Common.{◌≡◌, ◌≤◌, unsigned_abs, arith, to_z-of_z, w128, floor_div}
use Rattle.blocking_graph.proofs.AverageLemmas.{next_average_from, computed_average}
use Rattle.blocking_graph.proofs.averages.next_average_of.Goals as goal

pub returns : goal.returns
returns c =
    let eighth : c.eighth_of.result ≡ floor_div c.args.average 8 = rw (to_z-of_z w128 c.args.average c.ranges.average) at c.eighth_of.ensures.value in
    rw (next_average_from c.args.average c.args.sample c.eighth_of.result eighth) (computed_average c.args.average c.eighth_of.result c.args.sample (omega arith) (let small : unsigned_abs c.eighth_of.result ≤ unsigned_abs c.args.average = rw (to_z-of_z w128 c.args.average c.ranges.average) at c.eighth_of.ensures.small in omega arith) (omega arith))
