use Rattle.call_cycles.proofs.Common.{◌≡◌, ◌<◌, length, arith, common_steps, program_code, is_marked, not-true}
use Rattle.call_cycles.proofs.ClosedLemmas.{spread-first, spread-more, spread-next, spread-end, closed-set, unreached-off}
use Rattle.call_cycles.proofs.MarkLemmas.{seen-set}
use Rattle.call_cycles.proofs.off_cycles.is_off_cycles.Goals as goal

pub loop-next-init : goal.loop-next-init
loop-next-init c =
    let code = program_code c.args.flat.now in
    record {
      spread = spread-first code c.args.function (length code.functions) c.args.marks.now c.mark_callees.new.marks c.mark_callees.new.left.items c.requires.each c.requires.closed (rw c.new-left.ensures.items at c.in_ok-mark_callees.ensures.marked);
      seen = c.in_ok-mark_callees.ensures.seen;
    }

pub mark_callees-requires-in-Some-clause-function : goal.mark_callees-requires-in-Some-clause-function
mark_callees-requires-in-Some-clause-function c =
    let code = program_code c.args.flat.now in
    (spread-next code c.args.function (length code.functions) c.in-Some.next c.loop-next.marks c.pop.new.self.items
    (rw c.in-Some.ensures.items at c.loop-next.invariant.spread)).1

pub loop-next-preserved : goal.loop-next-preserved
loop-next-preserved c =
    let code = program_code c.args.flat.now in
    record {
      spread = spread-more code c.args.function (length code.functions) c.in-Some.next c.loop-next.marks c.pop.new.self.items c.mark_callees-in-Some.new.marks c.mark_callees-in-Some.new.left.items
          (rw c.in-Some.ensures.items at c.loop-next.invariant.spread) c.in_ok-mark_callees-2.ensures.marked;
      seen = c.in_ok-mark_callees-2.ensures.seen;
    }

pub returns-clause-off : goal.returns-clause-off
returns-clause-off c = λ off cycle.
    let code = program_code c.args.flat.now in
    let none : length c.loop-next.left.items ≡ 0 = grind (arith, common_steps) in
    unreached-off code c.args.function (length code.functions) c.loop-next.marks c.loop-next.left.items none c.loop-next.invariant.spread
    (not-true (is_marked c.loop-next.marks c.args.function) off) cycle

pub returns-clause-seen : goal.returns-clause-seen
returns-clause-seen c =
    let within : c.args.function < length c.loop-next.marks = omega (arith, c.loop-next.invariant.spread.each) in
    seen-set (program_code c.args.flat.now) c.args.function c.loop-next.marks c.loop-next.seen within c.loop-next.invariant.seen

pub returns-clause-closed : goal.returns-clause-closed
returns-clause-closed c =
    let code = program_code c.args.flat.now in
    let none : length c.loop-next.left.items ≡ 0 = grind (arith, common_steps) in
    let within : c.args.function < length c.loop-next.marks = omega (arith, c.loop-next.invariant.spread.each) in
    closed-set code c.args.function (length code.functions) c.loop-next.marks c.loop-next.left.items within c.loop-next.invariant.spread
    (spread-end code c.args.function (length code.functions) c.loop-next.marks c.loop-next.left.items none c.loop-next.invariant.spread)
