use Rattle.decisions.proofs.Pairs.{pair_decided}
use Rattle.decisions.proofs.checked_pairs.pair_is_valid_or_has_a_first_failure.Goals as goal

pub returns : goal.returns
returns c = pair_decided
