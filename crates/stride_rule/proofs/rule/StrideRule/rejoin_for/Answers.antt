use Rattle.stride_rule.proofs.Common.{subst, sym, IsKept}
use Rattle.stride_rule.proofs.StateLemmas.{as_told, kept_after_segment_for}
use Rattle.stride_rule.proofs.rule.StrideRule.rejoin_for.Goals as goal

pub tell-requires : goal.tell-requires
tell-requires c = record {
  once = c.self.invariant.kept.once;
  levels = c.self.invariant.covered;
  there = (c.self.invariant.kept.there c.args.thread.number (rw (← c.self.view_is) at c.requires));
}

pub invariant_of-self : goal.invariant_of-self
invariant_of-self c =
    let clients = c.tell.ensures.clients in
    let needs = c.tell.ensures.needs in
    record { kept = subst IsKept (sym (as_told _ c.self.invariant.kept c.args.thread.number c.args.need _ _ clients needs)) (kept_after_segment_for _ c.args.thread.number c.args.need c.self.invariant.kept); covered = c.tell.ensures.levels }

pub returns : goal.returns
returns c =
    let clients = c.tell.ensures.clients in
    let needs = c.tell.ensures.needs in
    rw (← c.self.view_is) (as_told _ c.self.invariant.kept c.args.thread.number c.args.need _ _ clients needs)
