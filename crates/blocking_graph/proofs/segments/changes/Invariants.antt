use Rattle.blocking_graph.proofs.Common.{◌≡◌, ℕ, ◌<◌, get_or, length, pos, ◌-ℤ◌}
use Rattle.std.specs.Prelude.{slice_index_or}
use Rattle.blocking_graph.proofs.segments.changes.Given as goal

abbrev pub invariant-loop-place : goal.invariant-loop-place
invariant-loop-place l = ((r : ℕ) → r < l.place → slice_index_or l.change r (pos 0) ≡ pos (get_or l.after r 0) -ℤ pos (get_or l.before r 0)) × (length l.change ≡ 8)
