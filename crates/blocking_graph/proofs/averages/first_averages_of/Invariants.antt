use Rattle.blocking_graph.proofs.Common.{◌≡◌, ℕ, ◌<◌, length, get_or, pos, first_average}
use Rattle.blocking_graph.proofs.averages.first_averages_of.Given as goal

abbrev pub invariant-loop-resource : goal.invariant-loop-resource
invariant-loop-resource l = (length l.averages ≡ 8) × ((k : ℕ) → k < l.resource → get_or l.averages k (pos 0) ≡ first_average (get_or l.samples k (pos 0)))
