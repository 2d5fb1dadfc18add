use Rattle.std.proofs.Common.{refl}
use Rattle.cap_word.specs.Word.{add, sub, mul, flag, signed, word_of}
use Rattle.flat_code.proofs.Samples.{passing_formed}
use Rattle.flat_code.proofs.laws.samples_run.Goals as goal

pub returns-clause-formed : goal.returns-clause-formed
returns-clause-formed c = passing_formed

pub returns-clause-descends : goal.returns-clause-descends
unfolding add sub flag signed word_of
returns-clause-descends c = refl

pub returns-clause-chooses : goal.returns-clause-chooses
unfolding mul
returns-clause-chooses c = refl
