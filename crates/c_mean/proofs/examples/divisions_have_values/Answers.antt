use Rattle.c_mean.proofs.Common.{refl, signed, word_of, floor_div, flag, add, sub, mul, div, rem}
use Rattle.c_mean.proofs.examples.divisions_have_values.Goals as goal

pub returns : goal.returns
unfolding signed word_of floor_div flag add sub mul div rem
returns c = (4, refl)
