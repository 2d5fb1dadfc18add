use Rattle.call_cycles.proofs.Common.{◌≡◌, length, arith, common_steps, program_code}
use Rattle.call_cycles.proofs.ClosedLemmas.{spread-more, spread-next, unreached-off}
use Rattle.call_cycles.proofs.WalkLemmas.{reached-more}
use Rattle.call_cycles.proofs.cycles.is_on_cycle.Goals as goal

pub mark_callees-requires-in-Some-clause-function : goal.mark_callees-requires-in-Some-clause-function
mark_callees-requires-in-Some-clause-function c =
    let code = program_code c.args.flat.now in
    (spread-next code c.args.function (length code.functions) c.in-Some.next c.loop-next.marks c.pop.new.self.items
    (rw c.in-Some.ensures.items at c.loop-next.invariant.spread)).1

pub loop-next-preserved : goal.loop-next-preserved
loop-next-preserved c =
    let code = program_code c.args.flat.now in
    let functions = length code.functions in
    let next = c.in-Some.next in
    let left = c.pop.new.self.items in
    let spread = rw c.in-Some.ensures.items at c.loop-next.invariant.spread in
    let marked = c.in_ok-mark_callees-2.ensures.marked in
    let here = c.loop-next.invariant.reached next (spread-next code c.args.function functions next c.loop-next.marks left spread).0 in
    record {
      spread = spread-more code c.args.function functions next c.loop-next.marks left c.mark_callees-in-Some.new.marks c.mark_callees-in-Some.new.left.items
          spread marked;
      reached = reached-more code c.args.function next c.loop-next.marks left c.mark_callees-in-Some.new.marks c.mark_callees-in-Some.new.left.items
          c.loop-next.invariant.reached here marked;
      seen = c.in_ok-mark_callees-2.ensures.seen;
    }

pub returns-clause-none : goal.returns-clause-none
returns-clause-none c = λ out cycle.
    let code = program_code c.args.flat.now in
    let none : length c.loop-next.left.items ≡ 0 = grind (arith, common_steps) in
    unreached-off code c.args.function (length code.functions) c.loop-next.marks c.loop-next.left.items none c.loop-next.invariant.spread out cycle
