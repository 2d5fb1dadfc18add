use Rattle.c_mean.proofs.Common.{refl, signed, word_of, floor_div, flag, add, sub, mul, div, rem, sll, sra}
use Rattle.c_mean.proofs.examples.range_is_tested_last.Goals as goal

pub returns : goal.returns
unfolding signed word_of floor_div flag add sub mul div rem sll sra
returns c = (20, refl)
