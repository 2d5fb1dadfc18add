use Rattle.c_mean.proofs.Common.{refl, signed, word_of, floor_div, flag, add, sub, mul, div, rem}
use Rattle.c_mean.proofs.examples.stores_beyond_trap.Goals as goal

pub returns-clause-above : goal.returns-clause-above
unfolding signed word_of floor_div flag add sub mul div rem
returns-clause-above c = (10, refl)

pub returns-clause-below : goal.returns-clause-below
unfolding signed word_of floor_div flag add sub mul div rem
returns-clause-below c = (10, refl)
