use Rattle.std.proofs.Common.{◌≤◌, ◌*◌, ◌^◌, ◌*ℤ◌, pos, unsigned_abs, get_or, arith}
use Rattle.blocking_graph.proofs.PredictionLemmas.{weight-le, computed_weight}
use Rattle.blocking_graph.proofs.sums.weight_of.Goals as goal

pub returns-clause-value : goal.returns-clause-value
returns-clause-value c =
    let small : unsigned_abs (get_or c.args.edge.now.change c.args.resource (pos 0)) ≤ 2 ^ 39 = c.requires.edge.changes c.args.resource (pos 0) (omega arith) in
    rw c.from.ensures (computed_weight c.args.edge.now.count (get_or c.args.edge.now.change c.args.resource (pos 0)) c.requires.count small)

pub returns-clause-small : goal.returns-clause-small
returns-clause-small c =
    let average = get_or c.args.edge.now.change c.args.resource (pos 0) in
    let small : unsigned_abs average ≤ 2 ^ 39 = c.requires.edge.changes c.args.resource (pos 0) (omega arith) in
    let weight : unsigned_abs (pos c.args.edge.now.count *ℤ average) ≤ c.args.edge.now.count * 2 ^ 39 = weight-le c.args.edge.now.count average (2 ^ 39) small in
    rw (c.from.ensures, computed_weight c.args.edge.now.count average c.requires.count small) (omega arith)
