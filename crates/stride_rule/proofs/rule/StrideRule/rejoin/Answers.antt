use Rattle.stride_rule.proofs.StateLemmas.{kept_after_segment}
use Rattle.stride_rule.proofs.rule.StrideRule.rejoin.Goals as goal

pub invariant_of-self : goal.invariant_of-self
invariant_of-self c = record { kept = kept_after_segment _ c.self.invariant.kept; covered = c.self.invariant.covered }
