use Rattle.machine_meaning.proofs.Formed.{formed, follows, entries}
use Rattle.machine_meaning.proofs.Zeroes.{program_zeroes}
use Rattle.machine_meaning.proofs.lowered_code.lowered_facts_law.Goals as goal

pub returns-clause-zeroes : goal.returns-clause-zeroes
returns-clause-zeroes c = program_zeroes

pub returns-clause-follows : goal.returns-clause-follows
returns-clause-follows c = follows

pub returns-clause-formed : goal.returns-clause-formed
returns-clause-formed c = formed

pub returns-clause-entries : goal.returns-clause-entries
returns-clause-entries c = entries
