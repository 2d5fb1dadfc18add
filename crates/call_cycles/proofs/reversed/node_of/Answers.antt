use Rattle.std.proofs.Common.{arith}
use Rattle.cycle_break.proofs.SeenLemmas.{table-within}
use Rattle.call_cycles.proofs.reversed.node_of.Goals as goal

pub overflow_add-result : goal.overflow_add-result
overflow_add-result c =
    let within = table-within c.args.tables.now c.in-Table.table (rw c.in-Table.is at c.requires.target.some) in
    omega (arith, within)

pub returns-in-Function : goal.returns-in-Function
returns-in-Function c = let all = rw c.in-Function.is at c.requires.target.all in omega (arith, all.0)

pub returns-in-Table : goal.returns-in-Table
returns-in-Table c =
    let within = table-within c.args.tables.now c.in-Table.table (rw c.in-Table.is at c.requires.target.some) in
    omega (arith, within)
