use Rattle.hoist_meaning.proofs.Numbers.{numbers_kept}
use Rattle.hoist_meaning.proofs.calls.calls_keep_numbers.Goals as goal

pub returns : goal.returns
returns c = numbers_kept
