use Rattle.chunk_budget.proofs.Common.{program_code}
use Rattle.chunk_budget.proofs.RootLemmas.{high_least}
use Rattle.chunk_budget.proofs.roots.least_high_root.Goals as goal

pub returns : goal.returns
returns c = high_least (program_code c.args.flat.now) c.args.budget.now c.requires.chunks c.least_of_roots.result (rw c.as_slice.ensures at c.least_of_roots.ensures)
