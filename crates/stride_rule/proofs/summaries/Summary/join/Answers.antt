use Rattle.std.proofs.Common.{sym, ◌∙◌}
use Rattle.std.proofs.lemmas.Bool.{or_right, or_left}
use Rattle.stride_rule.proofs.OrderLemmas.{goes_before-asym, goes_before-self}
use Rattle.stride_rule.proofs.summaries.Summary.join.Goals as goal

pub returns-then-is_after-clause-left : goal.returns-then-is_after-clause-left
returns-then-is_after-clause-left c = record {
  met = λ bounds e. rw (c.join-needs.ensures.met bounds) (or_left _ _ e);
  least = goes_before-asym c.args.other.now.pass c.args.other.now.number c.args.self.now.pass c.args.self.now.number (sym c.is_after.ensures ∙ c.if-is_after.true);
}

pub returns-then-is_after-clause-right : goal.returns-then-is_after-clause-right
returns-then-is_after-clause-right c = record {
  met = λ bounds e. rw (c.join-needs.ensures.met bounds) (or_right _ _ e);
  least = goes_before-self c.args.other.now.pass c.args.other.now.number;
}

pub returns-else-is_after-clause-left : goal.returns-else-is_after-clause-left
returns-else-is_after-clause-left c = record {
  met = λ bounds e. rw (c.join-needs.ensures.met bounds) (or_left _ _ e);
  least = goes_before-self c.args.self.now.pass c.args.self.now.number;
}

pub returns-else-is_after-clause-right : goal.returns-else-is_after-clause-right
returns-else-is_after-clause-right c = record {
  met = λ bounds e. rw (c.join-needs.ensures.met bounds) (or_right _ _ e);
  least = sym c.is_after.ensures ∙ c.if-is_after.false;
}
