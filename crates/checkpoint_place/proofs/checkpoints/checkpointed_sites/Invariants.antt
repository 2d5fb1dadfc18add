use Rattle.checkpoint_place.proofs.Common.{◌≡◌, map, filter, take, slice_index, is_checkpointed}
use Rattle.checkpoint_place.proofs.checkpoints.checkpointed_sites.Given as goal

abbrev pub invariant-loop-site : goal.invariant-loop-site
invariant-loop-site l = l.numbers.items ≡ map (λ site. site.number) (filter (is_checkpointed l.graph l.back l.max_path (slice_index l.bounds)) (take l.site-index l.graph.sites))
