use Rattle.std.proofs.Common.{◌≤◌, ◌^◌, length, arith}
use Rattle.flat_code.specs.ProgramView.{program_code}
use Rattle.call_graph.proofs.FlatLemmas.{flat-graph}
use Rattle.call_graph.proofs.flat_graphs.graph.Goals as goal

pub sorted_graph-requires : goal.sorted_graph-requires
sorted_graph-requires c =
    let code = program_code c.args.flat.now in
    let few : length c.args.weights.now ≤ 2 ^ 32 = omega (arith, c.if-weights.false) in
    rw (c.in_ok-weights.ensures.items, c.in_ok-tables.ensures, c.tables.ensures, c.main_number.ensures, c.in_ok-sites.ensures, c.functions.ensures)
    (flat-graph code c.args.weights.now c.args.flat.now.well_formed c.requires few)
