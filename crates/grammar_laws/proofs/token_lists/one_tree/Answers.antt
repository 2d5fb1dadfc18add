use Rattle.grammar_laws.proofs.TreeUnique.{program_unique}
use Rattle.grammar_laws.proofs.TreeAccepted.{program_whole}
use Rattle.grammar_laws.proofs.token_lists.one_tree.Goals as goal

pub returns-clause-only : goal.returns-clause-only
returns-clause-only c = program_unique

pub returns-clause-whole : goal.returns-clause-whole
returns-clause-whole c = program_whole
