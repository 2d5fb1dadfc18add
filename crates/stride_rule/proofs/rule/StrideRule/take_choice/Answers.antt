use Rattle.std.proofs.Common.{◌∙◌}
use Rattle.stride_rule.proofs.NotingLemmas.{noted_may_be, noted_same}
use Rattle.stride_rule.proofs.rule.StrideRule.take_choice.Goals as goal

pub note_choice-requires-clause-waits : goal.note_choice-requires-clause-waits
note_choice-requires-clause-waits g c = (noted_may_be c.args.self.now _ c.in-Some.choice c.in-Some.ensures c.requires.none_under_way).waits

pub note_choice-requires-clause-first : goal.note_choice-requires-clause-first
note_choice-requires-clause-first g c = (noted_may_be c.args.self.now _ c.in-Some.choice c.in-Some.ensures c.requires.none_under_way).first

pub returns-clause-noted : goal.returns-clause-noted
returns-clause-noted g c = c.note_choice.ensures ∙ noted_same c.args.self.now _ c.in-Some.choice c.in-Some.ensures
