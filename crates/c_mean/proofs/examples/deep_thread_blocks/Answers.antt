use Rattle.c_mean.proofs.Common.{refl, signed, word_of, floor_div, flag, add, sub, mul, div, rem}
use Rattle.c_mean.proofs.examples.deep_thread_blocks.Goals as goal

pub returns-clause-blocks : goal.returns-clause-blocks
unfolding signed word_of floor_div flag add sub mul div rem
returns-clause-blocks c = (_, (_, (100, refl), refl), refl)

pub returns-clause-ends : goal.returns-clause-ends
unfolding signed word_of floor_div flag add sub mul div rem
returns-clause-ends c = (_, (_, (100, refl), (_, (100, refl), refl)), refl)
