use Rattle.chunk_budget.proofs.Common.{program_code}
use Rattle.chunk_budget.proofs.heights.table_height.Goals as goal

pub returns-clause-known : goal.returns-clause-known
returns-clause-known c = c.keep.ensures (program_code c.args.flat.now) c.args.heights.now c.requires.known c.height_of_members-height.ensures
