use Rattle.call_cycles.proofs.Common.{length, ap, arith, program_code}
use Rattle.call_cycles.proofs.OrderLemmas.{cycle-within}
use Rattle.call_cycles.proofs.WalkLemmas.{least-cycle}
use Rattle.call_cycles.proofs.cycles.least_on_cycle.Goals as goal

pub returns-then-branch : goal.returns-then-branch
returns-then-branch c =
    least-cycle (program_code c.args.flat.now) c.loop-number.number c.loop-number.invariant (c.in_ok-lies_on_cycle.ensures.found c.if-branch.true)

pub returns : goal.returns
returns c = λ g cycle.
    let within = cycle-within (program_code c.args.flat.now) g cycle in
    let count = ap length c.functions-number-end.ensures in
    c.loop-number.invariant g (omega (arith, within, count, c.loop-number-test.false)) cycle
