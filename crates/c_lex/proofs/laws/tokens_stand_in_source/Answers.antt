use Rattle.c_lex.proofs.PlaceLemmas.{tokens_stand, tokens_spelled}
use Rattle.c_lex.proofs.laws.tokens_stand_in_source.Goals as goal

pub returns-clause-order : goal.returns-clause-order
returns-clause-order c = tokens_stand

pub returns-clause-spelled : goal.returns-clause-spelled
returns-clause-spelled c = tokens_spelled
