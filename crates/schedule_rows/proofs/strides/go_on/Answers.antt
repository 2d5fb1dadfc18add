use Rattle.stride_rule.proofs.NotingLemmas.{may_be_noted}
use Rattle.schedule_rows.proofs.strides.go_on.Goals as goal

pub note_choice-requires-clause-waits : goal.note_choice-requires-clause-waits
note_choice-requires-clause-waits c = (may_be_noted c.args.rule.now _ c.in-Some.choice c.requires.between c.in-Some.ensures).waits

pub note_choice-requires-clause-first : goal.note_choice-requires-clause-first
note_choice-requires-clause-first c = (may_be_noted c.args.rule.now _ c.in-Some.choice c.requires.between c.in-Some.ensures).first
