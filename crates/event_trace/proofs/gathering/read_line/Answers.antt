use Rattle.std.proofs.Common.{◌≡◌, nat_eq, length, ◌∷◌, [], false, arith, ap, length-append, ◌∙◌}
use Rattle.std.proofs.lemmas.Grind.{common_steps}
use Rattle.std.proofs.lemmas.Bool.Decides.{nat_tests}
use Rattle.event_trace.proofs.Gathered.{gathers_line, gathers_last, gathers_long, gathered_more, tail_more, whole_more}
use Rattle.event_trace.proofs.gathering.read_line.Goals as goal

pub returns-in_err-byte-clause-tail : goal.returns-in_err-byte-clause-tail
returns-in_err-byte-clause-tail g c = tail_more _ _ _ c.loop-byte.invariant.tail c.in_err-byte.ensures.tail

pub returns-else-is_empty-clause-told : goal.returns-else-is_empty-clause-told
returns-else-is_empty-clause-told g c =
    let none = rw c.in_default.is at c.in_ok-byte.ensures.bytes
    in gathers_last _ _ _ _ _ c.loop-byte.invariant.gathered none.0 none.1 (grind (arith, common_steps))

pub returns-then-byte-eq10-clause-told : goal.returns-then-byte-eq10-clause-told
returns-then-byte-eq10-clause-told g c =
    gathers_line _ _ _ _ _ c.loop-byte.invariant.gathered (rw (c.in-Some.is, c.if-byte-eq10.true) at c.in_ok-byte.ensures.bytes)

pub returns-then-byte-eq10-clause-tail : goal.returns-then-byte-eq10-clause-tail
returns-then-byte-eq10-clause-tail g c = tail_more _ _ _ c.loop-byte.invariant.tail c.in_ok-byte.ensures.tail

pub returns-then-len-eq-MOST_BYTES-clause-told : goal.returns-then-len-eq-MOST_BYTES-clause-told
returns-then-len-eq-MOST_BYTES-clause-told g c =
    let other : nat_eq c.in-Some.byte 10 ≡ false = grind (arith, nat_tests)
    in gathers_long _ _ _ _ _ _ c.loop-byte.invariant.gathered (rw c.in-Some.is at c.in_ok-byte.ensures.bytes) other (grind (arith, common_steps))

pub returns-then-len-eq-MOST_BYTES-clause-tail : goal.returns-then-len-eq-MOST_BYTES-clause-tail
returns-then-len-eq-MOST_BYTES-clause-tail g c = tail_more _ _ _ c.loop-byte.invariant.tail c.in_ok-byte.ensures.tail

pub loop-byte-preserved : goal.loop-byte-preserved
loop-byte-preserved g c =
    let other : nat_eq c.in-Some.byte 10 ≡ false = grind (arith, nat_tests)
    in let more = gathered_more _ _ _ _ _ c.loop-byte.invariant.gathered (rw c.in-Some.is at c.in_ok-byte.ensures.bytes) other
    in record {
      gathered = rw c.push_reserved.ensures.items more;
      whole = whole_more _ _ _ c.in-Some.byte _ _ _ other c.loop-byte.invariant.whole (rw c.in-Some.is at c.in_ok-byte.ensures.held);
      first = λ none.
          let empty = rw c.push_reserved.ensures.items at none
          in absurd (omega (arith, ap length empty, length-append c.loop-byte.line.items (c.in-Some.byte ∷ [])));
      tail = tail_more _ _ _ c.loop-byte.invariant.tail c.in_ok-byte.ensures.tail;
      counts = c.in_ok-byte.ensures.counts ∙ c.loop-byte.invariant.counts;
      short = omega arith;
      room = omega arith;
    }
