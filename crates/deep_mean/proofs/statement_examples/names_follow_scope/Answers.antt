use Rattle.std.proofs.Common.{refl}
use Rattle.deep_mean.proofs.statement_examples.names_follow_scope.Goals as goal

pub returns : goal.returns
returns c = refl
