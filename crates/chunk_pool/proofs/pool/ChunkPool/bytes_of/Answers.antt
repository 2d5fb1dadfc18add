use Rattle.std.proofs.Common.{arith}
use Rattle.chunk_pool.proofs.Shapes.{words_in-most}
use Rattle.chunk_pool.proofs.pool.ChunkPool.bytes_of.Goals as goal

pub overflow_mul-result : goal.overflow_mul-result
overflow_mul-result c = omega (arith, c.words_of.ensures, words_in-most c.self.inside.shape c.args.id c.self.invariant.pool.shape)
