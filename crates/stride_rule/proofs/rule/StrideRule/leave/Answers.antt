use Rattle.stride_rule.proofs.Common.{subst, sym, IsKept}
use Rattle.stride_rule.proofs.StateLemmas.{as_left, kept_after_leaving}
use Rattle.stride_rule.proofs.rule.StrideRule.leave.Goals as goal

pub take_out-requires : goal.take_out-requires
take_out-requires c = record { once = c.self.invariant.kept.once; levels = c.self.invariant.covered }

pub invariant_of-self : goal.invariant_of-self
invariant_of-self c =
    let clients = c.take_out.ensures.clients in
    let needs = c.take_out.ensures.needs in
    record { kept = subst IsKept (sym (as_left _ c.self.invariant.kept c.args.thread.number _ _ clients needs)) (kept_after_leaving _ c.args.thread.number c.self.invariant.kept); covered = c.take_out.ensures.levels }

pub returns : goal.returns
returns c =
    let clients = c.take_out.ensures.clients in
    let needs = c.take_out.ensures.needs in
    rw (← c.self.view_is) (as_left _ c.self.invariant.kept c.args.thread.number _ _ clients needs)
