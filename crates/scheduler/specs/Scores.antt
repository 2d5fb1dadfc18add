-- The order in which nodes are chosen.
use Rattle.std.specs.Prelude.{ℕ, zero, suc, ◌==◌, ◌&&◌, ◌||◌, nat_lt, Bool, ℤ, pos, ◌+ℤ◌, ◌*ℤ◌, int_lt, int_le, List, slice_index}
use Rattle.blocking_graph.specs.declared.edges.EdgeLine.{EdgeLine}
use Rattle.blocking_graph.specs.Edges.{prediction}
use Rattle.resource_monitor.specs.Monitor.{MonitorState, pressure_at}

-- the sum over the first `count` resources of pressure times prediction
unfoldable pub score_of_first : (ℕ → ℕ) → (ℕ → ℤ) → ℕ → ℤ
score_of_first pressure predicted zero = pos 0
score_of_first pressure predicted (suc resource) =
    score_of_first pressure predicted resource +ℤ (pos (pressure resource) *ℤ predicted resource)

-- the score of a node: the sum over the eight resources of pressure times prediction
abbrev pub score : MonitorState → List EdgeLine → ℕ → ℤ
score monitor edges node = score_of_first (pressure_at monitor) (prediction edges node) 8

-- the same, from the eight pressures
abbrev pub score_by : List ℕ → List EdgeLine → ℕ → ℤ
score_by pressures edges node = score_of_first (slice_index pressures) (prediction edges node) 8

-- whether one rank, of a score, a last choice and a number, is below another
abbrev pub ranks_below : ℤ → ℕ → ℕ → ℤ → ℕ → ℕ → Bool
ranks_below score last node other_score other_last other =
    int_lt score other_score
    || (int_le score other_score && (nat_lt last other_last || (last == other_last && nat_lt node other)))

-- whether a node comes before another: by score, then by the number of its last choice, then by
-- number
abbrev pub comes_before : (ℕ → ℤ) → (ℕ → ℕ) → ℕ → ℕ → Bool
comes_before score last node other = ranks_below (score node) (last node) node (score other) (last other) other
