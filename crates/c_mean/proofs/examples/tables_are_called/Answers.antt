use Rattle.c_mean.proofs.Common.{refl, signed, word_of, floor_div, flag, add, sub, mul, div, rem}
use Rattle.c_mean.proofs.examples.tables_are_called.Goals as goal

pub returns : goal.returns
unfolding signed word_of floor_div flag add sub mul div rem
returns c = (10, refl)
