use Rattle.blocking_graph.proofs.Common.{◌≡◌, ℕ, ◌<◌, length, get_or, pos, next_average}
use Rattle.blocking_graph.proofs.averages.next_averages_of.Given as goal

abbrev pub invariant-loop-resource : goal.invariant-loop-resource
invariant-loop-resource l = (length l.next ≡ 8) × ((k : ℕ) → k < l.resource → get_or l.next k (pos 0) ≡ next_average (get_or l.averages k (pos 0)) (get_or l.samples k (pos 0)))
