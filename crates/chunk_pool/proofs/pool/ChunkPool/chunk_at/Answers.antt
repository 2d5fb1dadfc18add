use Rattle.chunk_pool.proofs.Common.{◌∙◌, ap, subst, Pool, chunk_at, IsPool}
use Rattle.chunk_pool.proofs.AddressLaws.{chunk_at-some, found_holds, found_none}
use Rattle.chunk_pool.proofs.pool.ChunkPool.chunk_at.Goals as goal

pub returns-clause-value : goal.returns-clause-value
returns-clause-value c = c.chunk_at.ensures ∙ ap (λ (p : Pool). chunk_at p c.args.address) c.self.view_is

pub returns-clause-holds : goal.returns-clause-holds
returns-clause-holds c = found_holds c.args.self.now c.args.address c.chunk_at.result (subst IsPool c.self.view_is c.self.invariant.pool) (returns-clause-value c)

pub returns-clause-only : goal.returns-clause-only
returns-clause-only c id has = returns-clause-value c ∙ chunk_at-some c.args.self.now id c.args.address has

pub returns-clause-none : goal.returns-clause-none
returns-clause-none c = found_none c.args.self.now c.args.address c.chunk_at.result (returns-clause-value c)
