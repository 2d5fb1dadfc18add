use Rattle.std.proofs.Common.{◌∙◌}
use Rattle.chunk_pool.proofs.Kept.{class_is}
use Rattle.chunk_pool.proofs.pool.ChunkPool.class_for.Goals as goal

pub returns-clause-value : goal.returns-clause-value
returns-clause-value c = c.class_for.ensures ∙ class_is c.self.inside c.args.self.now c.args.need c.self.view_is
