use Rattle.std.proofs.Common.{ℕ, ◌∙◌, ap, get_or}
use Rattle.chunk_pool.proofs.Kept.{read_is}
use Rattle.chunk_pool.proofs.pool.ChunkPool.read.Goals as goal

pub returns-clause-value : goal.returns-clause-value
returns-clause-value c =
    c.read.ensures ∙ ap (λ (i : ℕ). get_or c.self.inside.region i 0) c.position.ensures.place
    ∙ read_is c.self.inside c.args.self.now c.args.id c.args.word c.self.view_is c.requires.id_in_range c.requires.word_in_range
