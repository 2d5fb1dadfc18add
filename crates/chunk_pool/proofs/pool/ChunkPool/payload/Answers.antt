use Rattle.std.proofs.Common.{◌∙◌, ◌-◌, ℕ, ap, take, drop, arith}
use Rattle.chunk_pool.proofs.Common.{Pool, words_of}
use Rattle.chunk_pool.proofs.Shapes.{words_in-some}
use Rattle.chunk_pool.proofs.Kept.{has_words, payload_is}
use Rattle.chunk_pool.proofs.pool.ChunkPool.payload.Goals as goal

pub position-requires-clause-word_in_range : goal.position-requires-clause-word_in_range
position-requires-clause-word_in_range c = omega (arith, has_words c.self.inside c.args.self.now c.args.id c.self.view_is c.self.invariant)

pub overflow_sub-words_of : goal.overflow_sub-words_of
overflow_sub-words_of c = omega (arith, c.words_of.ensures, words_in-some c.self.inside.shape c.args.id c.self.invariant.pool.shape)

pub returns-clause-value : goal.returns-clause-value
returns-clause-value c =
    c.slice.ensures
    ∙ ap (λ (n : ℕ). take (n - 4) (drop c.position.result c.self.inside.region)) (c.words_of.ensures ∙ ap (λ (q : Pool). words_of q c.args.id) c.self.view_is)
    ∙ payload_is c.self.inside c.args.self.now c.args.id c.position.result c.self.view_is c.self.invariant c.requires c.position.ensures.place
