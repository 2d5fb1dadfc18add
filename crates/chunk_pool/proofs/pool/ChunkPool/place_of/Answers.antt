use Rattle.chunk_pool.proofs.Common.{◌+◌, ◌*◌, ◌%◌, ℕ, ◌∙◌, ap, subst, first_place, IsPool, pool_of}
use Rattle.chunk_pool.proofs.AddressLaws.{place_of-aligned, place_of-bounded}
use Rattle.chunk_pool.proofs.pool.ChunkPool.place_of.Goals as goal

pub returns-clause-aligned : goal.returns-clause-aligned
returns-clause-aligned c =
    ap (λ (n : ℕ). (first_place + 4 * n) % 16) c.start_of.ensures.start ∙ place_of-aligned (pool_of c.self.inside) c.args.id c.self.invariant.pool

pub returns-clause-below_end : goal.returns-clause-below_end
returns-clause-below_end c = place_of-bounded c.args.self.now c.args.id (subst IsPool c.self.view_is c.self.invariant.pool) c.requires
