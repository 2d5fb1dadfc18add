use Rattle.c_mean.proofs.Common.{refl, signed, word_of, floor_div, flag, add, sub, mul, div, rem}
use Rattle.c_mean.proofs.examples.call_pushes_frame.Goals as goal

pub returns-clause-pushed : goal.returns-clause-pushed
unfolding signed word_of floor_div flag add sub mul div rem
returns-clause-pushed c = (_, refl, refl, refl)

pub returns-clause-popped : goal.returns-clause-popped
unfolding signed word_of floor_div flag add sub mul div rem
returns-clause-popped c = (_, refl, refl, refl)

pub returns-clause-ended : goal.returns-clause-ended
unfolding signed word_of floor_div flag add sub mul div rem
returns-clause-ended c = refl
