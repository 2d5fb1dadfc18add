use Rattle.c_mean.proofs.Common.{refl, signed, word_of, floor_div, flag, add, sub, mul, div, rem, sll, sra}
use Rattle.c_mean.proofs.examples.turns_without_condition_are_left.Goals as goal

pub returns-clause-left : goal.returns-clause-left
unfolding signed word_of floor_div flag add sub mul div rem sll sra
returns-clause-left c = (100, refl)

pub returns-clause-skipped : goal.returns-clause-skipped
unfolding signed word_of floor_div flag add sub mul div rem sll sra
returns-clause-skipped c = (100, refl)

pub returns-clause-turns : goal.returns-clause-turns
unfolding signed word_of floor_div flag add sub mul div rem sll sra
returns-clause-turns c = (100, refl)

pub returns-clause-two_steps : goal.returns-clause-two_steps
unfolding signed word_of floor_div flag add sub mul div rem sll sra
returns-clause-two_steps c = refl
