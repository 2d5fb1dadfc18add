use Rattle.chunk_pool.proofs.Common.{◌+◌, ◌≤◌, subst, arith, Pool}
use Rattle.chunk_pool.proofs.Kept.{all_free_is, free_most}
use Rattle.chunk_pool.proofs.pool.ChunkPool.free.Goals as goal

pub returns-clause-count : goal.returns-clause-count
returns-clause-count c = all_free_is c.self.inside c.args.self.now c.self.view_is

pub returns-clause-bounded : goal.returns-clause-bounded
returns-clause-bounded c =
    subst (λ (p : Pool). c.self.inside.free + c.self.inside.extra_free ≤ p.count) c.self.view_is (free_most c.self.inside c.args.self.now c.self.view_is c.self.invariant)

pub overflow_add-result : goal.overflow_add-result
overflow_add-result c =
    omega (arith, free_most c.self.inside c.args.self.now c.self.view_is c.self.invariant, c.self.invariant.pool.shape.extra_bounded, c.self.invariant.pool.shape.chunks_bounded)
