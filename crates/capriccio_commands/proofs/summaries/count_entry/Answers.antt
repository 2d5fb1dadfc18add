use Rattle.std.proofs.Common.{arith}
use Rattle.capriccio_commands.proofs.summaries.count_entry.Goals as goal

pub count_choice-requires : goal.count_choice-requires
count_choice-requires c = let room = c.requires.choices in omega (arith, room)

pub count_output-requires : goal.count_output-requires
count_output-requires c =
    let outputs = c.requires.outputs in
    let sum = c.requires.sum in
    record { outputs = omega (arith, outputs); sum = omega (arith, sum) }

pub count_cost-requires : goal.count_cost-requires
count_cost-requires c = let room = c.requires.cost in omega (arith, room)

pub count_cost-requires-in-End : goal.count_cost-requires-in-End
count_cost-requires-in-End c = let room = c.requires.cost in omega (arith, room)

pub count_cost-requires-in-Stop-Cut : goal.count_cost-requires-in-Stop-Cut
count_cost-requires-in-Stop-Cut c = let room = c.requires.cost in omega (arith, room)
