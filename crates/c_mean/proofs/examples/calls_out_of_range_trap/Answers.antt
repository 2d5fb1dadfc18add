use Rattle.c_mean.proofs.Common.{refl, signed, word_of, floor_div, flag, add, sub, mul, div, rem, sll, sra}
use Rattle.c_mean.proofs.examples.calls_out_of_range_trap.Goals as goal

pub returns-clause-taken : goal.returns-clause-taken
unfolding signed word_of floor_div flag add sub mul div rem sll sra
returns-clause-taken c = (9, refl)

pub returns-clause-given : goal.returns-clause-given
unfolding signed word_of floor_div flag add sub mul div rem sll sra
returns-clause-given c = (9, refl)

pub returns-clause-waited : goal.returns-clause-waited
unfolding signed word_of floor_div flag add sub mul div rem sll sra
returns-clause-waited c = (9, refl)

pub returns-clause-waited_for : goal.returns-clause-waited_for
unfolding signed word_of floor_div flag add sub mul div rem sll sra
returns-clause-waited_for c = (9, refl)
