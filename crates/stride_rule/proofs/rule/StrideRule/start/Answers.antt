use Rattle.stride_rule.proofs.Common.{subst, sym, IsKept}
use Rattle.stride_rule.proofs.StateLemmas.{kept_with_client, started}
use Rattle.stride_rule.proofs.rule.StrideRule.start.Goals as goal

pub invariant_of-self-2 : goal.invariant_of-self-2
invariant_of-self-2 c =
    let none = rw (← c.self.view_is) at c.requires in
    let stride = rw c.as_slice.ensures.value at c.stride_for-stride.ensures.value in
    record {
      kept = subst IsKept
          (sym (started _ c.self.invariant.kept c.make_room.new.places.items c.append.new.places.items c.args.thread c.stride_for-stride.result c.max-self-inside.result c.make_room.ensures.clients c.make_room.ensures.needs none stride
          c.max-self-inside.ensures c.in_ok-append.ensures.ok))
          (kept_with_client _ c.args.thread c.self.invariant.kept none);
      covered = c.append.ensures.levels;
    }

pub returns-clause-ok : goal.returns-clause-ok
returns-clause-ok c =
    let none = rw (← c.self.view_is) at c.requires in
    let stride = rw c.as_slice.ensures.value at c.stride_for-stride.ensures.value in
    rw (← c.self.view_is)
    (started _ c.self.invariant.kept c.make_room.new.places.items c.append.new.places.items c.args.thread c.stride_for-stride.result c.max-self-inside.result c.make_room.ensures.clients c.make_room.ensures.needs none stride
    c.max-self-inside.ensures c.in_ok-append.ensures.ok)
