use Rattle.certificate_rules.proofs.ValidLemmas.{tables_are, globals_are, plain_room, need_room, one_before}
use Rattle.certificate_rules.proofs.laws.valid_pairs_have_room.Goals as goal

pub returns-clause-tables : goal.returns-clause-tables
returns-clause-tables c = tables_are

pub returns-clause-globals : goal.returns-clause-globals
returns-clause-globals c = globals_are

pub returns-clause-plain : goal.returns-clause-plain
returns-clause-plain c = plain_room

pub returns-clause-linked : goal.returns-clause-linked
returns-clause-linked c = need_room

pub returns-clause-apart : goal.returns-clause-apart
returns-clause-apart c = one_before
