use Rattle.call_cycles.proofs.Common.{◌≡◌, length, arith, common_steps, program_code}
use Rattle.call_cycles.proofs.OrderLemmas.{acyclic-where}
use Rattle.call_cycles.proofs.cycles.cycle_of.Goals as goal

pub returns-then-is_empty : goal.returns-then-is_empty
returns-then-is_empty c =
    let none : length c.in_ok-back.back.items ≡ 0 = grind (arith, common_steps) in
    acyclic-where (program_code c.args.flat.now) c.args.graph.now c.requires.graph c.in_ok-back.back.items none c.in_ok-back.ensures.breaks
