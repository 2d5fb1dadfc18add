use Rattle.chunk_pool.proofs.RegionLaws.{IsLinkedTo}
use Rattle.chunk_pool.proofs.pool.link_all.Given as goal

abbrev pub invariant-loop-id : goal.invariant-loop-id
invariant-loop-id l = IsLinkedTo l.shape l.id l.region
