use Rattle.std.proofs.Common.{refl}
use Rattle.deep_mean.proofs.examples.names_have_numbers.Goals as goal

pub returns : goal.returns
returns c = refl
