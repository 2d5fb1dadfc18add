use Rattle.std.proofs.Common.{◌/◌}
use Rattle.chunk_pool.proofs.PoolStart.{IsPool-start_bytes, IsShape-start_bytes}
use Rattle.chunk_pool.proofs.Kept.{started, started_kept}
use Rattle.chunk_pool.proofs.pool.ChunkPool.new.Goals as goal

pub size-requires : goal.size-requires
size-requires c =
    IsShape-start_bytes c.args.count c.args.bytes c.args.extra c.args.extra_bytes c.requires.some_chunks c.requires.chunks_bounded c.requires.header_fits
    c.requires.bytes_bounded c.requires.aligned c.requires.extra_bounded c.requires.extra_header_fits c.requires.extra_bytes_bounded c.requires.extra_aligned c.requires.size_bounded

pub link_all-requires-clause-sound : goal.link_all-requires-clause-sound
link_all-requires-clause-sound c =
    IsShape-start_bytes c.args.count c.args.bytes c.args.extra c.args.extra_bytes c.requires.some_chunks c.requires.chunks_bounded c.requires.header_fits
    c.requires.bytes_bounded c.requires.aligned c.requires.extra_bounded c.requires.extra_header_fits c.requires.extra_bytes_bounded c.requires.extra_aligned c.requires.size_bounded

pub returns-clause-start : goal.returns-clause-start
returns-clause-start c =
    started c.args.count (c.args.bytes / 4) c.args.extra (c.args.extra_bytes / 4) c.link_all.new.region
    (IsPool-start_bytes c.args.count c.args.bytes c.args.extra c.args.extra_bytes c.requires.some_chunks c.requires.chunks_bounded c.requires.header_fits
    c.requires.bytes_bounded c.requires.aligned c.requires.extra_bounded c.requires.extra_header_fits c.requires.extra_bytes_bounded c.requires.extra_aligned c.requires.size_bounded)
    c.link_all.ensures.linked

pub invariant_of-result : goal.invariant_of-result
invariant_of-result c =
    started_kept c.args.count (c.args.bytes / 4) c.args.extra (c.args.extra_bytes / 4) c.link_all.new.region
    (IsPool-start_bytes c.args.count c.args.bytes c.args.extra c.args.extra_bytes c.requires.some_chunks c.requires.chunks_bounded c.requires.header_fits
    c.requires.bytes_bounded c.requires.aligned c.requires.extra_bounded c.requires.extra_header_fits c.requires.extra_bytes_bounded c.requires.extra_aligned c.requires.size_bounded)
    c.link_all.ensures.linked c.link_all.ensures.size

pub returns-clause-sound : goal.returns-clause-sound
returns-clause-sound c = (invariant_of-result c).pool
