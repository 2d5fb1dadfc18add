use Rattle.grammar_laws.proofs.Outcome.{nearest_taken, nearest_whole}
use Rattle.grammar_laws.proofs.token_lists.else_to_the_nearest.Goals as goal

pub returns-clause-taken : goal.returns-clause-taken
returns-clause-taken c = nearest_taken

pub returns-clause-whole : goal.returns-clause-whole
returns-clause-whole c = nearest_whole
